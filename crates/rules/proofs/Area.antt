-- What stands in an area after a part of it was written: the new part, and every part beside it as it was.
use mathlib.Core.Path.{◌≡◌, refl, ap, sym, ◌∙◌}
use mathlib.Core.List.{List, [], ◌∷◌, ◌++◌, append_assoc}
use Prim.Native.Nat.{ℕ, ◌+◌, ◌-◌, ◌*◌, ◌≤◌, ◌<◌}
use native.Mathlib.Nat.{zero-add}
use native.Mathlib.Numerals.{add-one}
use native.Mathlib.Omega.{arith}
use lib.ListN.{length, take, drop, get_or, set, length-drop, length-take, length-append, take-append-drop}
use lib.Seq.{set_split, take-suc-set, take-suc, get_or-drop, sets, sets-eq, paste, take-append_seam, drop-append-add, drop-append-le, drop-drop, take_all, length-take-le, drop_at, take_at, take-append-le}
use mathlib.Core.Logic.{◌⊎◌, inl, inr, ⊎_elim}
use mathlib.Core.Bool.{Bool, true, false}
use borrow.Author.Tests.{ltb-true, ltb-false}
use lib.Dec.{ltb}
use Rattle.rules.specs.declared.Cell.{Cell}
use Rattle.rules.specs.Lent.{patch, cell_of, cell_at, encode}

-- a copy that goes by one byte a turn: one byte more
pub copy_more : (out s : List ℕ) (at i : ℕ) → i < length out → at + i < length s → take i out ≡ take i (drop at s)
    → take (i + 1) (set out i (get_or s (at + i) 0)) ≡ take (i + 1) (drop at s)
copy_more out s at i h k e =
    let l : i < length (drop at s) = simp length-drop (omega arith) in
    rw (add-one, take-suc-set out i (get_or s (at + i) 0) h, take-suc (drop at s) i 0 l, get_or-drop, e)

-- one byte stored is a part of one byte
pub set-patch : (s : List ℕ) (k v : ℕ) → k < length s → set s k v ≡ patch s k (v ∷ [])
set-patch s k v h = rw (set_split s k v h, drop-drop 1 k s, add-one)

-- a run of stores at the front, and then a copy after it, is one patch
pub head_tail : (s h p : List ℕ) (n : ℕ) → length p ≡ n → length h + n ≤ length s
    → paste (sets s 0 h) (length h) p n ≡ patch s 0 (h ++ p)
head_tail s h p n e k =
    rw (sets-eq h s 0 (omega arith), take-append_seam, drop-append-add, take_all n p (omega arith), drop-drop, zero-add, length-append, e)

-- a part that is lent, patched at its front and given back, is a patch of the whole
pub part_patch : (xs new : List ℕ) (a k : ℕ) → length new ≤ k → a + k ≤ length xs
    → take a xs ++ (patch (take k (drop a xs)) 0 new ++ drop k (drop a xs)) ≡ patch xs a new
part_patch xs new a k h w =
    let l : length new ≤ length (take k (drop a xs)) = simp (length-take, length-drop) (omega arith) in
    ap (λ (t : List ℕ). take a xs ++ t)
    (append_assoc new (drop (length new) (take k (drop a xs))) (drop k (drop a xs))
    ∙ ap (λ (t : List ℕ). new ++ t)
    (sym (drop-append-le (length new) (take k (drop a xs)) (drop k (drop a xs)) l)
    ∙ ap (λ (t : List ℕ). drop (length new) t) (take-append-drop k (drop a xs))))

-- what stands in a patched list: the new part, and every part beside it as it was
pub length-patch : (s new : List ℕ) (a : ℕ) → a + length new ≤ length s → length (patch s a new) ≡ length s
length-patch s new a h = simp (length-append, length-take, length-drop) (omega arith)

pub patch_same : (s new : List ℕ) (a n : ℕ) → length new ≡ n → a + n ≤ length s → take n (drop a (patch s a new)) ≡ new
patch_same s new a n e h =
    ap (take n) (drop_at (take a s) (new ++ drop (length new) (drop a s)) a (length-take-le a s (omega arith)))
    ∙ take_at new (drop (length new) (drop a s)) n e

pub patch-below : (s new : List ℕ) (a b n : ℕ) → b + n ≤ a → a ≤ length s → take n (drop b (patch s a new)) ≡ take n (drop b s)
patch-below s new a b n h k =
    let l : b ≤ length (take a s) = simp length-take (omega arith) in
    let m : n ≤ length (drop b (take a s)) = simp (length-drop, length-take) (omega arith) in
    ap (take n) (drop-append-le b (take a s) (new ++ drop (length new) (drop a s)) l)
    ∙ take-append-le n (drop b (take a s)) (new ++ drop (length new) (drop a s)) m
    ∙ sym (take-append-le n (drop b (take a s)) (drop a s) m)
    ∙ ap (take n) (sym (drop-append-le b (take a s) (drop a s) l) ∙ ap (drop b) (take-append-drop a s))

pub patch_above : (s new : List ℕ) (a b : ℕ) → a + length new ≤ b → a + length new ≤ length s → drop b (patch s a new) ≡ drop b s
patch_above s new a b h k =
    let l : length (take a s) ≡ a = length-take-le a s (omega arith) in
    let w : b ≡ length (take a s) + (length new + (b - (a + length new))) = omega arith in
    let v : a + (length new + (b - (a + length new))) ≡ b = omega arith in
    ap (λ (x : ℕ). drop x (patch s a new)) w
    ∙ drop-append-add (take a s) (new ++ drop (length new) (drop a s)) (length new + (b - (a + length new)))
    ∙ drop-append-add new (drop (length new) (drop a s)) (b - (a + length new))
    ∙ drop-drop (b - (a + length new)) (length new) (drop a s)
    ∙ drop-drop (length new + (b - (a + length new))) a s
    ∙ ap (λ (x : ℕ). drop x s) v

apart_by : (j k : ℕ) → (j ≡ k → ⊥) → (b : Bool) → ltb j k ≡ b → (j < k) ⊎ (k < j)
apart_by j k n true e = inl (ltb-true j k e)
apart_by j k n false e = let h : k ≤ j = ltb-false j k e in inr (omega arith)

apart : (j k : ℕ) → (j ≡ k → ⊥) → (j < k) ⊎ (k < j)
apart j k n = apart_by j k n (ltb j k) refl

-- the cell that was put is the cell that is read, and every other cell stays
pub cell-put : (s : List ℕ) (c : Cell) (k : ℕ) → length c.pairs ≡ 32 → 36 * k + 36 ≤ length s → cell_at (patch s (36 * k) (encode c)) k ≡ c
cell-put s c k l h = ap cell_of (patch_same s (encode c) (36 * k) 36 (omega arith) h) ∙ rw (take_all 32 c.pairs (omega arith))

pub cell-kept : (s new : List ℕ) (k j : ℕ) → length new ≡ 36 → 36 * k + 36 ≤ length s → (j ≡ k → ⊥) → cell_at (patch s (36 * k) new) j ≡ cell_at s j
cell-kept s new k j l h n =
    ⊎_elim
    (λ (p : j < k). ap cell_of (patch-below s new (36 * k) (36 * j) 36 (omega arith) (omega arith)))
    (λ (p : k < j). ap (λ (x : List ℕ). cell_of (take 36 x)) (patch_above s new (36 * k) (36 * j) (omega arith) (omega arith)))
    (apart j k n)
