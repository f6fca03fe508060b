-- An area that is filled from its front, part after part.
use mathlib.Core.Path.{◌≡◌, refl, ap, sym, ◌∙◌}
use mathlib.Core.List.{List, [], ◌∷◌, ◌++◌, append_assoc, append-nil}
use Prim.Native.Nat.{ℕ, zero, suc, ◌+◌, ◌*◌}
use native.Mathlib.Nat.{mul_comm}
use native.Mathlib.Numerals.{add-one}
use lib.ListN.{length, drop, replicate, length-append}
use lib.Seq.{take_at, drop_at, drop-drop}
use Rattle.rules.specs.Tests.{many}
use Rattle.rules.specs.Lent.{patch}
use Rattle.rules.proofs.Spare.{length-many}

-- one part more
pub next : (s xs ys : List ℕ) (n : ℕ) → length xs ≡ n → patch (patch s 0 xs) n ys ≡ patch s 0 (xs ++ ys)
next s xs ys n e =
    ap (λ (t : List ℕ). t ++ (ys ++ drop (length ys) (drop n (xs ++ drop (length xs) s)))) (take_at xs (drop (length xs) s) n e)
    ∙ ap (λ (t : List ℕ). xs ++ (ys ++ drop (length ys) t)) (drop_at xs (drop (length xs) s) n e)
    ∙ ap (λ (t : List ℕ). xs ++ (ys ++ t)) (drop-drop (length ys) (length xs) s)
    ∙ sym (append_assoc xs ys (drop (length xs + length ys) s))
    ∙ ap (λ (k : ℕ). (xs ++ ys) ++ drop k s) (sym (length-append xs ys))

pub many_last : (k : ℕ) (w : List ℕ) → many (suc k) w ≡ many k w ++ w
many_last zero w = append-nil w
many_last (suc k) w = ap (λ (t : List ℕ). w ++ t) (many_last k w) ∙ sym (append_assoc w (many k w) w)

-- parts of one byte
pub many_one : (n x : ℕ) → many n (x ∷ []) ≡ replicate n x
many_one zero x = refl
many_one (suc n) x = ap (λ (t : List ℕ). x ∷ t) (many_one n x)

-- a part w of n bytes into the place numbered k of an area that has k such parts in front
pub filled_more : (s t w : List ℕ) (k n : ℕ) → length w ≡ n → t ≡ patch s 0 (many k w) → patch t (n * k) w ≡ patch s 0 (many (k + 1) w)
filled_more s t w k n l e =
    ap (λ (x : List ℕ). patch x (n * k) w) e ∙ next s (many k w) w (n * k) (length-many k w ∙ ap (λ (j : ℕ). k * j) l ∙ mul_comm k n)
    ∙ ap (λ (x : List ℕ). patch s 0 x) (sym (ap (λ (j : ℕ). many j w) (add-one k) ∙ many_last k w))
