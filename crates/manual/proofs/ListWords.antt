-- A list in words, from its first number, those between, and its last.
use Rattle.std.proofs.Common.{◌≡◌, ℕ, suc, ◌-◌, ◌≤◌, List, [], ◌∷◌, ◌++◌, codes, decimal, length, get_or, take, drop, flat_map, refl, ap, ◌∙◌, ap₂, arith}
use Rattle.std.proofs.lemmas.List.{take_all, append_assoc}
use Rattle.manual.specs.Words.{more_words, those_words}

abbrev pub next_words : ℕ → List ℕ
next_words k = codes ", " ++ decimal k

abbrev last_words : List ℕ → ℕ → List ℕ
last_words ks at = codes " and " ++ decimal (get_or ks at 0)

more_by_parts : (l : ℕ) (more : List ℕ) → flat_map next_words (take (length more) (l ∷ more)) ++ last_words (l ∷ more) (length more) ≡ more_words (l ∷ more)
more_by_parts l [] = refl
more_by_parts l (k ∷ more) =
    append_assoc (next_words l) (flat_map next_words (take (length more) (k ∷ more))) (last_words (k ∷ more) (length more))
    ∙ ap (λ ws. next_words l ++ ws) (more_by_parts k more)
    ∙ append_assoc (codes ", ") (decimal l) (more_words (k ∷ more))

pub those_by_parts :
    (noun ks : List ℕ) (i : ℕ)
    → 2 ≤ length ks
    → length (take (length ks - 1 - 1) (drop 1 ks)) ≤ i
    → (noun ++ (codes "s " ++ decimal (get_or ks 0 0))) ++ (flat_map next_words (take i (take (length ks - 1 - 1) (drop 1 ks))) ++ last_words ks (length ks - 1)) ≡ those_words noun ks
those_by_parts noun [] i two done = absurd (omega arith)
those_by_parts noun (only ∷ []) i two done = absurd (omega arith)
those_by_parts noun (k ∷ l ∷ more) i two done =
    let between : length (k ∷ l ∷ more) - 1 - 1 ≡ length more = omega arith in
    let last : length (k ∷ l ∷ more) - 1 ≡ suc (length more) = omega arith in
    let first = noun ++ (codes "s " ++ decimal k) in
    ap (λ ws. first ++ ws)
    (ap₂ (λ ms at. flat_map next_words ms ++ last_words (k ∷ l ∷ more) at) (take_all i _ done ∙ ap (λ n. take n (l ∷ more)) between) last
    ∙ more_by_parts l more)
    ∙ append_assoc noun (codes "s " ++ decimal k) (more_words (l ∷ more))
    ∙ ap (λ ws. noun ++ ws) (append_assoc (codes "s ") (decimal k) (more_words (l ∷ more)))
