-- Writing part after part: a part written right behind another makes one part of the two.
use mathlib.Core.Path.{◌≡◌, refl, ap, sym, ◌∙◌}
use mathlib.Core.List.{List, [], ◌∷◌, ◌++◌, append_assoc}
use Prim.Native.Nat.{ℕ, zero, suc, ◌+◌, ◌*◌, ◌≤◌, ◌<◌}
use native.Mathlib.Numerals.{add-one}
use native.Mathlib.Omega.{arith}
use lib.ListN.{length, take, drop, set, length-append, take-append-drop}
use lib.Seq.{paste, drop-drop, take_all, take_at, drop_at, length-take-le, take-suc-set, get_or-drop}
use Rattle.rules.specs.Lent.{patch}
use Rattle.rules.specs.declared.House.{House}
use Rattle.image.specs.Image.{scans, image, four_at}

-- nothing written
pub none_yet : (s : List ℕ) (at : ℕ) → s ≡ patch s at []
none_yet s at = sym (take-append-drop at s)

-- a whole list pasted is a part written
pub pasted : (s p : List ℕ) (at n : ℕ) → length p ≡ n → paste s at p n ≡ patch s at p
pasted s p at n e = rw (take_all n p (omega (arith, e)), append_assoc (take at s) p (drop (at + n) s), drop-drop, e)

-- a part behind a part
pub behind : (s a b : List ℕ) (at n : ℕ) → at + length a ≡ n → n ≤ length s → patch (patch s at a) n b ≡ patch s at (a ++ b)
behind s a b at n e h =
    let front : length (take at s ++ a) ≡ n = simp (length-append, length-take-le at s (omega arith)) (omega arith) in
    let rest = drop (length a) (drop at s) in
    let whole : patch s at a ≡ (take at s ++ a) ++ rest = sym (append_assoc (take at s) a rest) in
    ap (λ (t : List ℕ). take n t ++ (b ++ drop (length b) (drop n t))) whole
    ∙ rw (take_at (take at s ++ a) rest n front, drop_at (take at s ++ a) rest n front, drop-drop (length b) (length a) (drop at s), length-append a b, append_assoc (take at s) a (b ++ drop (length a + length b) (drop at s)), append_assoc a b (drop (length a + length b) (drop at s)))

pub then : (s a b : List ℕ) (at n : ℕ) {t u : List ℕ} → t ≡ patch s at a → u ≡ patch t n b → at + length a ≡ n → n ≤ length s → u ≡ patch s at (a ++ b)
then s a b at n {t} {u} p q e h = q ∙ ap (λ (x : List ℕ). patch x n b) p ∙ behind s a b at n e h

-- seven parts, one behind the other
pub joined : (a q w t s m n : List ℕ) → (((((a ++ q) ++ w) ++ t) ++ s) ++ m) ++ n ≡ a ++ (q ++ (w ++ (t ++ (s ++ (m ++ n)))))
joined a q w t s m n = simp append_assoc

-- a copy that goes by one number a turn: one number more
pub one_more : (out l : List ℕ) (i v w : ℕ) → i < length out → take i out ≡ l → v ≡ w → take (i + 1) (set out i v) ≡ l ++ (w ∷ [])
one_more out l i v w h e d = rw (add-one, take-suc-set out i v h, e, d)

-- and with all of them taken, the whole
pub all_of : (out : List ℕ) (l : ℕ → List ℕ) (i n : ℕ) → length out ≡ n → i ≡ n → take i out ≡ l i → out ≡ l n
all_of out l i n k e t = sym (take_all n out (omega arith)) ∙ rw e at t

pub length-scans : (a b : List ℕ) (n : ℕ) → length (scans a b n) ≡ 5 * n
length-scans a b zero = refl
length-scans a b (suc n) = rw (length-append, length-scans a b n) (omega arith)

-- four bytes of a list's end
pub four-drop : (s : List ℕ) (n k : ℕ) → four_at (drop n s) k ≡ four_at s (n + k)
four-drop s n k =
    let b : n + (k + 1) ≡ n + k + 1 = omega arith in
    let c : n + (k + 2) ≡ n + k + 2 = omega arith in
    let d : n + (k + 3) ≡ n + k + 3 = omega arith in
    rw (get_or-drop n s k 0, get_or-drop n s (k + 1) 0, get_or-drop n s (k + 2) 0, get_or-drop n s (k + 3) 0, b, c, d)

pub length-image : (h : House) → length h.quorums ≡ 64 → length h.weaks ≡ 64 → length (image h) ≡ 459
unfolding image
length-image h q w = simp length-append (omega arith)
