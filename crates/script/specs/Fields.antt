-- The fields of a record.
--
--   rest_of        what is left of the fields of a record of the program
--   plain          digits and nothing else, at least one, without a leading zero
--   number         the number that digits write in base ten, at most 65,535
--   field_end      where the number that bytes begin with ends: at the next space, or with them
--   field          what the first field says: a space, and then a number
--   after_field    what stands behind the first field
--   byte_field     what the first field says where that is at most 255
use Rattle.std.specs.Prelude.{ℕ, Bool, cond, not, ◌&&◌, ◌||◌, ◌==◌, nat_lt, List, length, take, drop, Option, Some, None, slice_index}
use Rattle.std.specs.List.{position_or_len}
use Rattle.std.specs.Str.{all_ascii_digits}
use Rattle.std.specs.Str.Parse.{digits_value}
use Rattle.script.specs.declared.reading.fields.Fields.{Fields}

abbrev pub rest_of : Fields → List ℕ
rest_of fields = fields.rest.now

abbrev pub plain : List ℕ → Bool
plain digits = all_ascii_digits digits && (nat_lt 0 (length digits) && (length digits == 1 || not (slice_index digits 0 == 48)))

abbrev pub number : List ℕ → Option ℕ
number digits = cond (plain digits && nat_lt (digits_value 10 digits) 65536) (Some (digits_value 10 digits)) None

abbrev pub field_end : List ℕ → ℕ
field_end bytes = position_or_len (λ b. b == 32) bytes

abbrev pub field : List ℕ → Option ℕ
field bytes = cond (nat_lt 0 (length bytes) && slice_index bytes 0 == 32) (number (take (field_end (drop 1 bytes)) (drop 1 bytes))) None

abbrev pub after_field : List ℕ → List ℕ
after_field bytes = drop (field_end (drop 1 bytes)) (drop 1 bytes)

abbrev pub byte_field : List ℕ → Option ℕ
byte_field bytes = elim (field bytes) [ Some n ↦ cond (nat_lt n 256) (Some n) None | None ↦ None ]
