-- What the page says of a table, of a put, of a role and of a question.
use Rattle.std.specs.Prelude.{ℕ, List, [], ◌∷◌, ◌++◌, Some, None, Ok, Err, codes, decimal, Option, Result, ◌==◌, if◌then◌else◌}
use Rattle.network.specs.Faults.{number}
use Rattle.network.specs.declared.faults.Fault.{Fault}
use Rattle.session.specs.declared.role.Role.{Role}

-- why a table is not regular: nodes x and y, and the role of node z
abbrev pub reason_words : ℕ → ℕ → ℕ → List ℕ
reason_words x y z =
    codes "are not regular: nodes "
    ++ (decimal x ++ (codes " and " ++ (decimal y ++ (codes " share a role, yet differ toward the role of node " ++ (decimal z ++ codes ".")))))

abbrev pub verdict_words : Option (ℕ × ℕ × ℕ) → List ℕ
verdict_words None = codes "are regular."
verdict_words (Some w) = reason_words w.0 w.1 w.2

abbrev pub refusal_words : ℕ → List ℕ
refusal_words n = codes "refused with " ++ decimal n

-- what comes of a put
abbrev pub outcome_words : Result (Unit {0}) Fault → List ℕ
outcome_words (Ok _) = codes "taken"
outcome_words (Err f) = refusal_words (number f)

-- n of what the noun names, with an s unless n is 1
abbrev pub count_words : ℕ → List ℕ → List ℕ
count_words n noun = decimal n ++ (codes " " ++ (noun ++ (if n == 1 then [] else codes "s")))

-- role r, with its head and its size
abbrev pub role_words : ℕ → Role → List ℕ
role_words r role = decimal r ++ (codes " (head " ++ (decimal role.head ++ (codes ", size " ++ (decimal role.size ++ codes ")"))))

-- numbers behind the first, the last of them with an and
abbrev pub more_words : List ℕ → List ℕ
more_words [] = []
more_words (last ∷ []) = codes " and " ++ decimal last
more_words (k ∷ l ∷ more) = codes ", " ++ (decimal k ++ more_words (l ∷ more))

-- which of those that the noun names
abbrev pub those_words : List ℕ → List ℕ → List ℕ
those_words noun [] = codes "no " ++ noun
those_words noun (only ∷ []) = noun ++ (codes " " ++ decimal only)
those_words noun (k ∷ l ∷ more) = noun ++ (codes "s " ++ (decimal k ++ more_words (l ∷ more)))

-- whom a question is true of: roles, and nodes
abbrev pub answer_words : List ℕ → List ℕ → List ℕ
answer_words roles nodes = codes "the table names " ++ (those_words (codes "role") roles ++ (codes ", and the network " ++ those_words (codes "node") nodes))
