-- The next set of a list: after the last that is held, or nowhere where 65 are held.
use mathlib.Core.Path.{◌≡◌}
use mathlib.Core.List.{List}
use Prim.Native.Nat.{ℕ, ◌+◌, ◌≤◌, ◌<◌}
use native.Mathlib.Numerals.{add-one}
use native.Mathlib.Omega.{arith}
use lib.ListN.{length, take, set}
use lib.Seq.{take_all, length-take-le, take-suc-set}
use borrow.Author.Tests.{lt-ltb, le-ltb}
use Rattle.page.specs.Sheet.{added}

module _ (l : List ℕ) (count n : ℕ) (long : length l ≡ 65) where
  pub next-set : count < 65 → take (count + 1) (set l count n) ≡ added n (take count l)
  unfolding added
  next-set h =
      let room : length (take count l) < 65 = rw (length-take-le count l (omega arith)) h in
      rw (lt-ltb (length (take count l)) 65 room, add-one, take-suc-set l count n (omega arith))

  -- no more than all
  pub all_held : 65 ≤ count → take count l ≡ l
  all_held h = take_all count l (omega arith)

  pub no_room : 65 ≤ count → take count l ≡ added n (take count l)
  unfolding added
  no_room h = rw (all_held h, le-ltb (length l) 65 (omega arith))
