-- What a record says.
--
--   Said         what a record says: its numbers, or the bytes of a remark
--   said_in      what a record of the program says
--   shown        the same where it is read
--   after        with the first field, and what stands behind it
--   after_byte   the same with a field that is at most 255
--   ended        nothing stands behind the last field
--   parse_..     the fields of a mark
--   is_mark      the record begins with the two bytes of a mark
--   parse        what the bytes of a record say, or the first no of: a known mark (12), fields right in number and form (13)
--
-- Fields are read one after another, and each is handed on with what stands behind it.
use Rattle.std.specs.Prelude.{ℕ, Bool, cond, ◌&&◌, ◌==◌, nat_lt, List, length, drop, slice_index, codes, Some, None, Result, Ok, Err}
use Rattle.question.specs.declared.line.Line.{Line}
use Rattle.script.specs.Fields.{field, byte_field, after_field}
use Rattle.script.specs.declared.faults.Reason.{Reason}
use Rattle.script.specs.declared.record.Record.{Record}
use Rattle.script.specs.declared.record.Record.TheVariants as variant

pub data Said : Type 0 where
  Matrix : ℕ → Said
  TwoMode : ℕ → ℕ → Said
  Slots : ℕ → ℕ → Said
  Kinds : Said
  Bundles : Said
  Tally : Said
  Put : ℕ → ℕ → ℕ → Said
  Colour : ℕ → ℕ → Said
  Question : Line → Said
  Go : Said
  Remark : List ℕ → Said

abbrev pub said_in : Record → Said
said_in (variant.Matrix n) = Said.Matrix n
said_in (variant.TwoMode a b) = Said.TwoMode a b
said_in (variant.Slots n s) = Said.Slots n s
said_in variant.Kinds = Said.Kinds
said_in variant.Bundles = Said.Bundles
said_in variant.Tally = Said.Tally
said_in (variant.Put i j b) = Said.Put i j b
said_in (variant.Colour i c) = Said.Colour i c
said_in (variant.Question l) = Said.Question l
said_in variant.Go = Said.Go
said_in (variant.Remark text) = Said.Remark text.now

abbrev pub shown : Result Record Reason → Result Said Reason
shown (Ok what) = Ok (said_in what)
shown (Err why) = Err why

-- with the first field of the bytes, a byte or any number, and with what stands behind it
abbrev pub after : List ℕ → (ℕ → List ℕ → Result Said Reason) → Result Said Reason
after bytes next = elim (field bytes) [ Some n ↦ next n (after_field bytes) | None ↦ Err Reason.Fields ]

abbrev pub after_byte : List ℕ → (ℕ → List ℕ → Result Said Reason) → Result Said Reason
after_byte bytes next = elim (byte_field bytes) [ Some n ↦ next n (after_field bytes) | None ↦ Err Reason.Fields ]

-- nothing may stand behind the last field
abbrev pub ended : Said → List ℕ → Result Said Reason
ended said bytes = cond (length bytes == 0) (Ok said) (Err Reason.Fields)

abbrev pub parse_matrix : List ℕ → Result Said Reason
parse_matrix bytes = after bytes (λ n. ended (Said.Matrix n))

abbrev pub parse_two_mode : List ℕ → Result Said Reason
parse_two_mode bytes = after bytes (λ a bytes. after bytes (λ b. ended (Said.TwoMode a b)))

abbrev pub parse_slots : List ℕ → Result Said Reason
parse_slots bytes = after bytes (λ n bytes. after bytes (λ s. ended (Said.Slots n s)))

abbrev pub parse_put : List ℕ → Result Said Reason
parse_put bytes = after bytes (λ i bytes. after bytes (λ j bytes. after_byte bytes (λ b. ended (Said.Put i j b))))

abbrev pub parse_colour : List ℕ → Result Said Reason
parse_colour bytes = after bytes (λ i bytes. after_byte bytes (λ c. ended (Said.Colour i c)))

abbrev pub parse_of_colour : List ℕ → Result Said Reason
parse_of_colour bytes = after_byte bytes (λ c. ended (Said.Question (record { code = 0; k = 0; l = 0; byte = c })))

abbrev pub parse_not : List ℕ → Result Said Reason
parse_not bytes = after bytes (λ k. ended (Said.Question (record { code = 1; k = k; l = 0; byte = 0 })))

abbrev pub parse_and : List ℕ → Result Said Reason
parse_and bytes = after bytes (λ k bytes. after bytes (λ l. ended (Said.Question (record { code = 2; k = k; l = l; byte = 0 }))))

abbrev pub parse_tied : List ℕ → Result Said Reason
parse_tied bytes = after bytes (λ k bytes. after_byte bytes (λ t. ended (Said.Question (record { code = 3; k = k; l = 0; byte = t }))))

abbrev pub is_mark : List ℕ → List ℕ → Bool
is_mark mark text = slice_index text 0 == slice_index mark 0 && slice_index text 1 == slice_index mark 1

abbrev pub parse : List ℕ → Result Said Reason
parse text =
    let bytes = drop 2 text in
    cond (nat_lt (length text) 2) (Err Reason.Mark)
    (cond (is_mark (codes "NM") text) (parse_matrix bytes)
    (cond (is_mark (codes "NT") text) (parse_two_mode bytes)
    (cond (is_mark (codes "NL") text) (parse_slots bytes)
    (cond (is_mark (codes "MK") text) (ended Said.Kinds bytes)
    (cond (is_mark (codes "MB") text) (ended Said.Bundles bytes)
    (cond (is_mark (codes "MT") text) (ended Said.Tally bytes)
    (cond (is_mark (codes "PU") text) (parse_put bytes)
    (cond (is_mark (codes "CO") text) (parse_colour bytes)
    (cond (is_mark (codes "QC") text) (parse_of_colour bytes)
    (cond (is_mark (codes "QN") text) (parse_not bytes)
    (cond (is_mark (codes "QA") text) (parse_and bytes)
    (cond (is_mark (codes "QT") text) (parse_tied bytes)
    (cond (is_mark (codes "GO") text) (ended Said.Go bytes)
    (cond (is_mark (codes "RM") text) (Ok (Said.Remark bytes))
    (Err Reason.Mark)))))))))))))))
