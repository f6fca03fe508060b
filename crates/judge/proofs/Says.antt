-- What a judge's tests say together: the number that the rules reply.
use mathlib.Core.Path.{◌≡◌, refl, ap, sym, ◌∙◌}
use mathlib.Core.Bool.{Bool, true, false, ◌&&◌, ◌||◌}
use mathlib.Core.List.{List, [], ◌∷◌}
use Prim.Native.Nat.{ℕ, ◌≤◌}
use native.Mathlib.Omega.{arith}
use borrow.Author.Tests.{leb-true, le-leb}
use lib.Dec.{leb, ltb}
use lib.ListN.{length}
use Rattle.rules.specs.Tests.{first}
use Rattle.rules.specs.Words.{scan_in, bal_in, m1a, m1c}
use Rattle.rules.specs.Lent.{Memory, room_of, row_in, read, limits, is_1b_at}
use Rattle.rules.specs.Steps.{has, fits, scanned_in, tube_for, told, scan, c1a, c1b, c1c, hear}
use Rattle.rules.specs.Replies.{fields, tubes}
use Rattle.rules.proofs.Codec.{length_board}
use Rattle.rules.proofs.Scan.{holds}
use Rattle.kept.specs.Kept.{Whole}
use Rattle.kept.proofs.Ready.{Passed, length_intake}
use Rattle.judge.proofs.Past.{bounds}
use Rattle.intake.proofs.Scans.{known_tube, tube_new}
use Rattle.judge.specs.Judged.{verdict}

-- a scan has a tube: it is known, or intake is not full
tube_there : (l : List (ℕ × ℕ)) (x y : ℕ) → length l ≤ 64 → leb (tube_for l x y) 64 ≡ (scanned_in l x y || ltb (length l) 64)
tube_there l x y h = go (scanned_in l x y) refl
  where
    go : (b : Bool) → scanned_in l x y ≡ b → leb (tube_for l x y) 64 ≡ (b || ltb (length l) 64)
    go true e = let k : tube_for l x y ≤ length l = leb-true (tube_for l x y) (length l) (sym (known_tube l x y) ∙ e) in le-leb (tube_for l x y) 64 (omega arith)
    go false e = ap (λ (t : ℕ). leb t 64) (tube_new l x y e)

-- an accepted scan's tube is one
pub tube_most : (m : Memory) (a b : ℕ) → Whole m → Passed m (scan a b) → tube_for (read m).intake a b ≤ 64
tube_most m a b w p =
    let l = (read m).intake in
    leb-true (tube_for l a b) 64 (tube_there l a b (omega (arith, length_intake m, (bounds m w).tubes)) ∙ holds (scanned_in l a b || ltb (length l) 64) p.needs.0)

module _ (m : Memory) where
  pub says_1a : (r b : ℕ) (x y : Bool) → limits (room_of m.house) (m1a r b) ≡ x → fits (room_of m.house) (read m) (m1a r b) ≡ y
      → first ((x, 6) ∷ (y, 15) ∷ []) ≡ verdict m (c1a r b)
  unfolding verdict fields tubes
  says_1a r b x y p q = sym (λ i. first ((p i, 6) ∷ (q i, 15) ∷ []))

  pub says_1c : (r b v : ℕ) (x y z : Bool) → limits (room_of m.house) (m1c r b v) ≡ x → leb v m.house.tubes ≡ y → fits (room_of m.house) (read m) (m1c r b v) ≡ z
      → first ((x, 6) ∷ (y, 7) ∷ (z, 15) ∷ []) ≡ verdict m (c1c r b v)
  unfolding verdict fields tubes
  says_1c r b v x y z p q s = sym (λ i. first ((p i, 6) ∷ ((ap (leb v) (length_intake m) ∙ q) i, 7) ∷ (s i, 15) ∷ []))

  pub says_1b : (r n b : ℕ) (x y z w : Bool) → ((row_in (room_of m.house) r && bal_in b) && ltb n m.house.nodes) ≡ x → leb ((read m).cells r n).max_bal b ≡ y → has (m1a r b) (read m).board ≡ z
      → fits (room_of m.house) (read m) (told (read m) r n b) ≡ w
      → first ((x, 6) ∷ (y, 8) ∷ (z, 9) ∷ (w, 15) ∷ []) ≡ verdict m (c1b r n b)
  unfolding verdict fields tubes
  says_1b r n b x y z w p q s t = sym (λ i. first ((p i, 6) ∷ (q i, 8) ∷ (s i, 9) ∷ (t i, 15) ∷ []))

  pub says_hear : (n k : ℕ) (x y : Bool) → (ltb n m.house.nodes && ltb k m.house.count) ≡ x → is_1b_at (read m).board k ≡ y
      → first ((x, 6) ∷ (y, 13) ∷ []) ≡ verdict m (hear n k)
  unfolding verdict fields tubes
  says_hear n k x y p q = sym (λ i. first (((ap (λ (t : ℕ). ltb n m.house.nodes && ltb k t) (length_board m.board m.house.count) ∙ p) i, 6) ∷ (q i, 13) ∷ []))

  pub says_scan : (a b : ℕ) (x y : Bool) → m.house.tubes ≤ 64 → scan_in a b ≡ x → leb (tube_for (read m).intake a b) 64 ≡ y
      → first ((x, 6) ∷ (y, 16) ∷ []) ≡ verdict m (scan a b)
  unfolding verdict fields tubes
  says_scan a b x y h p q = sym (λ i. first ((p i, 6) ∷ ((sym (tube_there (read m).intake a b (omega (arith, length_intake m))) ∙ q) i, 16) ∷ []))
