-- Bytes written one part after another are the whole written at once.
use mathlib.Core.Path.{◌≡◌, refl, sym, ap, ◌∙◌}
use mathlib.Core.List.{List, [], ◌∷◌, ◌++◌, append_assoc}
use Prim.Native.Nat.{ℕ, ◌+◌, ◌≤◌, ◌<◌}
use native.Mathlib.Nat.{add-zero}
use native.Mathlib.Omega.{arith}
use lib.ListN.{length, take, drop, set, length-append, take-append-drop}
use lib.Seq.{take_at, drop_at, drop-drop, length-take-le}
use Rattle.rules.specs.Lent.{patch}
use Rattle.rules.proofs.Area.{set-patch}
use Rattle.closing.specs.Given.{Wrote}

-- a patch right after a patch
patch_on : (s xs ys : List ℕ) (a : ℕ) → a ≤ length s → patch (patch s a xs) (a + length xs) ys ≡ patch s a (xs ++ ys)
patch_on s xs ys a h =
    let front = take a s ++ xs in
    let back = drop (length xs) (drop a s) in
    let l : length front ≡ a + length xs = length-append (take a s) xs ∙ ap (λ (k : ℕ). k + length xs) (length-take-le a s h) in
    ap (λ (t : List ℕ). patch t (a + length xs) ys) (sym (append_assoc (take a s) xs back))
    ∙ ap (λ (t : List ℕ). t ++ (ys ++ drop (length ys) (drop (a + length xs) (front ++ back)))) (take_at front back (a + length xs) l)
    ∙ ap (λ (t : List ℕ). front ++ (ys ++ drop (length ys) t)) (drop_at front back (a + length xs) l)
    ∙ append_assoc (take a s) xs (ys ++ drop (length ys) back)
    ∙ ap (λ (t : List ℕ). take a s ++ t) (sym (append_assoc xs ys (drop (length ys) back)))
    ∙ ap (λ (t : List ℕ). take a s ++ ((xs ++ ys) ++ t)) (drop-drop (length ys) (length xs) (drop a s) ∙ ap (λ (k : ℕ). drop k (drop a s)) (sym (length-append xs ys)))

pub wrote_none : (s : List ℕ) (at : ℕ) → Wrote s at [] at s
wrote_none s at = record { ends = sym (add-zero at); area = sym (take-append-drop at s) }

pub wrote_byte : (s : List ℕ) (at b : ℕ) → at < length s → Wrote s at (b ∷ []) (at + 1) (set s at b)
wrote_byte s at b h = record { ends = refl; area = set-patch s at b h }

-- one part more
pub wrote_on : {s s' s'' xs ys : List ℕ} {a b c : ℕ} → a ≤ length s → Wrote s a xs b s' → Wrote s' b ys c s'' → Wrote s a (xs ++ ys) c s''
wrote_on {s} {s'} {s''} {xs} {ys} {a} {b} {c} h v w =
    record {
      ends = omega (arith, v.ends, w.ends, length-append xs ys);
      area = w.area ∙ ap (λ (t : List ℕ). patch t b ys) v.area ∙ ap (λ (k : ℕ). patch (patch s a xs) k ys) v.ends ∙ patch_on s xs ys a h;
    }
