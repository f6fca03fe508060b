-- What was written is read back: each part of an image stands where it is read.
use mathlib.Core.Path.{◌≡◌, refl, ap, sym, ◌∙◌, subst}
use mathlib.Core.List.{List, [], ◌∷◌, ◌++◌, append_assoc}
use Prim.Native.Nat.{ℕ, zero, suc, ◌+◌, ◌*◌, ◌/◌, ◌%◌, ◌≤◌, ◌<◌}
use native.Mathlib.Nat.{not-suc-le-zero, add-zero}
use native.Mathlib.Decide.{ℕ_discrete}
use native.Mathlib.Omega.{arith}
use lib.ListN.{length, get_or, take, drop, get_or-append}
use lib.Seq.{take_all, take_at, take-suc, drop-append-add, get_or-append-add}
use Rattle.rules.specs.declared.House.{House}
use Rattle.image.specs.Image.{two, four, scans, counts, image, two_at, four_at, stations_at, serials_at, house_at}
use Rattle.image.proofs.Writing.{length-scans}

-- ---- a number and its bytes

two_back : (x : ℕ) {u v : ℕ} → u ≡ x % 256 → v ≡ x / 256 → u + 256 * v ≡ x
two_back x p q = omega arith

four_back : (x : ℕ) → x % 256 + 256 * (x / 256 % 256) + 65536 * (x / 65536 % 256) + 16777216 * (x / 16777216) ≡ x
four_back x = omega arith

-- ---- what stands behind a part

at_behind : (p q : List ℕ) (n k : ℕ) → length p ≡ n → get_or (p ++ q) (n + k) 0 ≡ get_or q k 0
at_behind p q n k e = ap (λ (z : ℕ). get_or (p ++ q) (z + k) 0) (sym e) ∙ get_or-append-add p q k 0

drop_behind : (p q : List ℕ) (n k : ℕ) → length p ≡ n → drop (n + k) (p ++ q) ≡ drop k q
drop_behind p q n k e = ap (λ (z : ℕ). drop (z + k) (p ++ q)) (sym e) ∙ drop-append-add p q k

-- ---- the scans

-- byte j of the scan numbered k, where scans stand at the front
abbrev Byte : List ℕ → List ℕ → List ℕ → ℕ → ℕ → Type 0
Byte a b s j k = get_or s (5 * k + j) 0 ≡ get_or (get_or a k 0 ∷ four (get_or b k 0)) j 0

last_byte : (a b r : List ℕ) (n j : ℕ) → j < 5 → Byte a b (scans a b n ++ ((get_or a n 0 ∷ four (get_or b n 0)) ++ r)) j n
last_byte a b r n j l =
    at_behind (scans a b n) ((get_or a n 0 ∷ four (get_or b n 0)) ++ r) (5 * n) j (length-scans a b n)
    ∙ get_or-append (get_or a n 0 ∷ four (get_or b n 0)) r 0 j l

scan_back : (a b r : List ℕ) (n k j : ℕ) → k < n → j < 5 → Byte a b (scans a b n ++ r) j k
scan_back a b r zero k j h l = absurd (not-suc-le-zero h)
scan_back a b r (suc n) k j h l =
    ap (λ (s : List ℕ). get_or s (5 * k + j) 0) (append_assoc (scans a b n) (get_or a n 0 ∷ four (get_or b n 0)) r)
    ∙ go (λ g. scan_back a b ((get_or a n 0 ∷ four (get_or b n 0)) ++ r) n k j g l) (ℕ_discrete k n)
  where
    here : List ℕ
    here = scans a b n ++ ((get_or a n 0 ∷ four (get_or b n 0)) ++ r)

    go : (k < n → Byte a b here j k) → Dec (k ≡ n) → Byte a b here j k
    go f (yes e) = subst (λ (i : ℕ). Byte a b here j i) (sym e) (last_byte a b r n j l)
    go f (no e) = f (omega arith)

-- the first n stations, and the first n serials
stations_back : (a b r : List ℕ) (m n : ℕ) → n ≤ m → m ≤ length a → stations_at (scans a b m ++ r) n ≡ take n a
stations_back a b r m zero h l = refl
stations_back a b r m (suc n) h l =
    rw (stations_back a b r m n (omega arith) l, take-suc a n 0 (omega arith))
    (ap (λ (x : ℕ). take n a ++ (x ∷ [])) (ap (λ (z : ℕ). get_or (scans a b m ++ r) z 0) (sym (add-zero (5 * n))) ∙ scan_back a b r m n 0 (omega arith) (omega arith)))

serial_back : (a b r : List ℕ) (m n : ℕ) → n < m → four_at (scans a b m ++ r) (5 * n + 1) ≡ get_or b n 0
serial_back a b r m n h =
    rw (scan_back a b r m n 1 h (omega arith), second, third, fourth) (four_back (get_or b n 0))
  where
    byte : (i j : ℕ) → 5 * n + 1 + i ≡ 5 * n + j → j < 5 → get_or (scans a b m ++ r) (5 * n + 1 + i) 0 ≡ get_or (get_or a n 0 ∷ four (get_or b n 0)) j 0
    byte i j e l = ap (λ (z : ℕ). get_or (scans a b m ++ r) z 0) e ∙ scan_back a b r m n j h l

    second : get_or (scans a b m ++ r) (5 * n + 1 + 1) 0 ≡ get_or b n 0 / 256 % 256
    second = byte 1 2 (omega arith) (omega arith)

    third : get_or (scans a b m ++ r) (5 * n + 1 + 2) 0 ≡ get_or b n 0 / 65536 % 256
    third = byte 2 3 (omega arith) (omega arith)

    fourth : get_or (scans a b m ++ r) (5 * n + 1 + 3) 0 ≡ get_or b n 0 / 16777216
    fourth = byte 3 4 (omega arith) (omega arith)

serials_back : (a b r : List ℕ) (m n : ℕ) → n ≤ m → m ≤ length b → serials_at (scans a b m ++ r) n ≡ take n b
serials_back a b r m zero h l = refl
serials_back a b r m (suc n) h l =
    rw (serials_back a b r m n (omega arith) l, take-suc b n 0 (omega arith))
    (ap (λ (x : ℕ). take n b ++ (x ∷ [])) (serial_back a b r m n (omega arith)))

-- ---- the whole

-- what every house record in code has
pub record Sized (h : House) : Type 0 where
  pub quorums : length h.quorums ≡ 64
  pub weaks : length h.weaks ≡ 64
  pub stations : length h.stations ≡ 64
  pub serials : length h.serials ≡ 64

-- an image and what stands behind it, its parts in a row
abbrev laid : House → List ℕ → List ℕ
laid h r = counts h ++ (h.quorums ++ (h.weaks ++ (h.tubes ∷ (scans h.stations h.serials 64 ++ (h.marks ∷ (two h.count ++ r))))))

in_a_row : (h : House) (r : List ℕ) → image h ++ r ≡ laid h r
unfolding image
in_a_row h r = simp append_assoc

-- a house record from its fields
from_fields : (s : List ℕ) (h : House) → get_or s 0 0 ≡ h.nodes → get_or s 1 0 ≡ h.faulty → get_or s 2 0 ≡ h.rows → two_at s 3 ≡ h.capacity
    → get_or s 5 0 ≡ h.listed → take 64 (drop 7 s) ≡ h.quorums → get_or s 6 0 ≡ h.backers → take 64 (drop 71 s) ≡ h.weaks → get_or s 135 0 ≡ h.tubes
    → stations_at (drop 136 s) 64 ≡ h.stations → serials_at (drop 136 s) 64 ≡ h.serials → get_or s 456 0 ≡ h.marks → two_at s 457 ≡ h.count
    → house_at s ≡ h
unfolding house_at
from_fields s h n f r c l q b w t a i m k = rw (n, f, r, c, l, q, b, w, t, a, i, m, k)

-- behind two tables
behind_sets : (q w y : List ℕ) (k : ℕ) → length q ≡ 64 → length w ≡ 64 → get_or (q ++ (w ++ y)) (64 + (64 + k)) 0 ≡ get_or y k 0
behind_sets q w y k d e = at_behind q (w ++ y) 64 (64 + k) d ∙ at_behind w y 64 k e

from_sets : (q w y : List ℕ) (k : ℕ) → length q ≡ 64 → length w ≡ 64 → drop (64 + (64 + k)) (q ++ (w ++ y)) ≡ drop k y
from_sets q w y k d e = drop_behind q (w ++ y) 64 (64 + k) d ∙ drop_behind w y 64 k e

-- and behind the scans after them
behind_scans : (q w c e : List ℕ) (t k : ℕ) → length q ≡ 64 → length w ≡ 64 → length c ≡ 320
    → get_or (q ++ (w ++ (t ∷ (c ++ e)))) (64 + (64 + suc (320 + k))) 0 ≡ get_or e k 0
behind_scans q w c e t k d f g = behind_sets q w (t ∷ (c ++ e)) (suc (320 + k)) d f ∙ at_behind c e 320 k g

pub read_back : (h : House) (r : List ℕ) → Sized h → house_at (image h ++ r) ≡ h
read_back h r z =
    let q = h.quorums in
    let w = h.weaks in
    let a = h.stations in
    let b = h.serials in
    let end : List ℕ = h.marks ∷ (two h.count ++ r) in
    let y : List ℕ = h.tubes ∷ (scans a b 64 ++ end) in
    let there : drop 136 (laid h r) ≡ scans a b 64 ++ end = from_sets q w y 1 z.quorums z.weaks in
    let later : (k : ℕ) → get_or (q ++ (w ++ y)) (64 + (64 + suc (320 + k))) 0 ≡ get_or end k 0 = λ k. behind_scans q w (scans a b 64) end h.tubes k z.quorums z.weaks (length-scans a b 64) in
    ap house_at (in_a_row h r)
    ∙ from_fields (laid h r) h refl refl refl (two_back h.capacity refl refl) refl
    (take_at q (w ++ y) 64 z.quorums)
    refl
    (ap (take 64) (drop_behind q (w ++ y) 64 0 z.quorums) ∙ take_at w y 64 z.weaks)
    (behind_sets q w y 0 z.quorums z.weaks)
    (ap (λ (l : List ℕ). stations_at l 64) there ∙ stations_back a b end 64 64 (omega arith) (omega arith) ∙ take_all 64 a (omega arith))
    (ap (λ (l : List ℕ). serials_at l 64) there ∙ serials_back a b end 64 64 (omega arith) (omega arith) ∙ take_all 64 b (omega arith))
    (later 0)
    (two_back h.count (later 1) (later 2))
