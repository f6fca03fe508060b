-- The fields of a line, one by one: what is left of them after the first is written, and the room that it needs.
use mathlib.Core.Path.{◌≡◌}
use mathlib.Core.List.{List, [], ◌++◌}
use Prim.Native.Nat.{ℕ, ◌+◌, ◌≤◌, ◌<◌}
use native.Mathlib.Numerals.{add-one}
use denote.Bor.{Bor}
use lib.ListN.{length, get_or, drop, drop_of_length-le}
use lib.Seq.{drop-cons}
use Rattle.lines.specs.Decimal.{decimal}
use Rattle.closing.specs.Fields.{words_of, in_words, line_most}

-- where the code reads no field
abbrev pub no_field : Bor (List ℕ) × ℕ
no_field = (record { ref_ptr = (0, 0); now = [] }, 0)

module _ (l : List (Bor (List ℕ) × ℕ)) (i : ℕ) where
  pub field_more : i < length l → in_words (words_of (drop i l)) ≡ ((get_or l i no_field).0.now ++ decimal (get_or l i no_field).1) ++ in_words (words_of (drop (i + 1) l))
  field_more h = rw (add-one, drop-cons l i no_field)

  pub room_more : i < length l → line_most (words_of (drop i l)) ≡ length (get_or l i no_field).0.now + 10 + line_most (words_of (drop (i + 1) l))
  room_more h = rw (add-one, drop-cons l i no_field)

  pub field_none : length l ≤ i → drop i l ≡ []
  field_none h = drop_of_length-le l h
