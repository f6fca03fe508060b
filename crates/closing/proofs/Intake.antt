-- A house record's arrays hold the scan of each tube on its intake: what a caller of `write_closing` hands over.
use mathlib.Core.Path.{◌≡◌, sym, ◌∙◌}
use mathlib.Core.Bool.{Bool}
use mathlib.Core.List.{List, [], ◌∷◌, ◌++◌}
use Prim.Native.Nat.{ℕ, zero, suc, ◌-◌, ◌≤◌, ◌<◌}
use native.Mathlib.Decide.{ℕ_discrete}
use native.Mathlib.Omega.{arith}
use lib.Dec.{eqb}
use lib.ListN.{length, get_or, get_or-append}
use lib.Seq.{get_or_at}
use Rattle.rules.specs.Lent.{Memory, intake_of, room_of, read}
use Rattle.rules.specs.Book.{stopped}
use Rattle.rules.proofs.Book.{reaches}
use Rattle.rules.proofs.Codec.{length-scans}
use Rattle.closing.specs.Printed.{scan_of}
use Rattle.closing.specs.Given.{Book, Scans, Given}

module _ (a b : List ℕ) where
  pub scan_at_index : (n i : ℕ) → i < n → get_or (intake_of a b n) i (0, 0) ≡ (get_or a i 0, get_or b i 0)
  scan_at_index zero i h = absurd (omega arith)
  scan_at_index (suc n) i h = go (scan_at_index n i) (ℕ_discrete i n)
    where
      go : (i < n → get_or (intake_of a b n) i (0, 0) ≡ (get_or a i 0, get_or b i 0)) → Dec (i ≡ n)
          → get_or (intake_of a b n ++ ((get_or a n 0, get_or b n 0) ∷ [])) i (0, 0) ≡ (get_or a i 0, get_or b i 0)
      go r (yes e) = rw e (get_or_at (intake_of a b n) (get_or a n 0, get_or b n 0) [] (0, 0) n (length-scans a b n))
      go r (no e) =
          let l : i < length (intake_of a b n) = rw (length-scans a b n) (omega arith) in
          get_or-append (intake_of a b n) ((get_or a n 0, get_or b n 0) ∷ []) (0, 0) i l ∙ r (omega arith)

pub house-count : (m : Memory) → m.house.tubes ≡ length (read m).intake
house-count m = sym (length-scans m.house.stations m.house.serials m.house.tubes)

pub house-scans : (m : Memory) → Scans (read m) m.house.stations m.house.serials
unfolding scan_of
house-scans m t h k = scan_at_index m.house.stations m.house.serials m.house.tubes (t - 1) (omega (arith, house-count m))

-- the room and what stands in it that a memory means, with the book's tubes as an array
pub given : (m : Memory) (tubes : List ℕ) (n : ℕ) (split : Bool) → m.house.rows ≤ 64 → m.house.tubes ≤ 64 → Book (room_of m.house) (read m) tubes n
    → split ≡ eqb (stopped (room_of m.house) (read m)) 2 → Given (room_of m.house) (read m) tubes n split m.house.stations m.house.serials m.house.tubes
given m tubes n split h k g e =
    record {
      few = omega (arith, g.reached, reaches (room_of m.house) (read m));
      most = k;
      rows = g;
      stop = e;
      count = house-count m;
      scans = house-scans m;
    }
