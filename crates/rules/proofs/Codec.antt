-- The layouts: what was put is read, and the rest stays.
use mathlib.Core.Path.{◌≡◌, refl, ap, sym, ◌∙◌, fun_ext}
use mathlib.Core.Bool.{Bool, true, false, ◌&&◌, ◌||◌, and-false}
use mathlib.Core.Logic.{◌⊎◌, inl, inr, ⊎_elim}
use mathlib.Core.List.{List, [], ◌∷◌, ◌++◌}
use Prim.Native.Nat.{ℕ, zero, suc, ◌+◌, ◌*◌, ◌/◌, ◌%◌, ◌^◌, ◌≤◌, ◌<◌}
use native.Mathlib.Nat.{mul-le-mul_right}
use native.Mathlib.Decide.{ℕ_discrete}
use native.Mathlib.Omega.{arith}
use borrow.Author.Tests.{eqb-true, eqb-false, ne_eqb, eq-eqb, le-leb, lt-ltb, ltb-true, ltb-false}
use lib.Bits.{bit_or}
use lib.Dec.{T, eqb, leb, ltb, leb→le, ltb→lt}
use lib.ListN.{length, get_or, take, set, length-append}
use lib.Seq.{take_all, get_or-set_same, get_or-set_other}
use Rattle.rules.specs.Words.{height_of, height_byte, Pair, Msg, m1a, m1b, m1c, m2av, m2b, Cell, fresh, Room}
use Rattle.rules.specs.Tests.{pick, any, bit, fit}
use Rattle.rules.specs.Steps.{set_cell}
use Rattle.rules.proofs.Sound.{and_l, and_r}
use Rattle.rules.proofs.Nodes.{mark_bit}
use Rattle.rules.proofs.Area.{patch_same, patch-below, cell-put, cell-kept}
use Rattle.rules.specs.declared.Message.{Message}
use Rattle.rules.specs.Lent.{patch, pairs_of, flatten, msg_of, bytes_of, msg_at, meaning, stored, board_of, encode, cell_at, meaning_cell, stored_cell, place, heard_at, set_bit, intake_of, row_in, in_room, cells_of, heard_of}

-- ---- structs and what they mean

-- what the codec carries
abbrev pub Small : Msg → Type 0
Small (m1a r b) = Unit
Small (m1b r b n x y l) = (x ≤ 255) × (length l ≤ 16)
Small (m1c r b v) = Unit
Small (m2av r b n v) = Unit
Small (m2b r b n v) = Unit

pub length-fit : (n : ℕ) (l : List ℕ) → length (fit n l) ≡ n
length-fit zero l = refl
length-fit (suc n) [] = ap suc (length-fit n [])
length-fit (suc n) (x ∷ l) = ap suc (length-fit n l)

-- what was fitted is read again
pub take-fit : (n : ℕ) (l : List ℕ) → length l ≤ n → take (length l) (fit n l) ≡ l
take-fit n [] h = refl
take-fit zero (x ∷ l) h = absurd (omega arith)
take-fit (suc n) (x ∷ l) h = ap (λ (t : List ℕ). x ∷ t) (take-fit n l (omega arith))

pub pairs_back : (ps : List Pair) (n : ℕ) → 2 * length ps ≤ n → pairs_of (length ps) (fit n (flatten ps)) ≡ ps
pairs_back [] n h = refl
pairs_back (p ∷ ps) zero h = absurd (omega arith)
pairs_back (p ∷ ps) (suc zero) h = absurd (omega arith)
pairs_back (p ∷ ps) (suc (suc n)) h = ap (λ (t : List Pair). p ∷ t) (pairs_back ps n (omega arith))

pub bal_back : (y : ℕ) → y ≤ 255 → height_of (height_byte y) ≡ y
bal_back zero h = refl
bal_back (suc y) h = rw (ne_eqb y 255 (λ e. omega arith))

pub msg_back : (x : Msg) → Small x → meaning (stored x) ≡ x
unfolding meaning stored
msg_back (m1a r b) h = refl
msg_back (m1b r b n x y l) h = rw (bal_back x h.0, pairs_back l 32 (omega (arith, h.1)))
msg_back (m1c r b v) h = refl
msg_back (m2av r b n v) h = refl
msg_back (m2b r b n v) h = refl

pub msg_long : (x : Msg) → length (stored x).pairs ≡ 32
unfolding stored
msg_long (m1a r b) = refl
msg_long (m1b r b n x y l) = length-fit 32 (flatten l)
msg_long (m1c r b v) = refl
msg_long (m2av r b n v) = refl
msg_long (m2b r b n v) = refl

pub cell_back : (c : Cell) → c.max_bal ≤ 255 → c.max_vbal ≤ 255 → length c.pairs ≤ 16 → meaning_cell (stored_cell c) ≡ c
cell_back c p q l = λ i. record { max_bal = bal_back c.max_bal p i; max_vbal = bal_back c.max_vbal q i; max_vval = c.max_vval; pairs = pairs_back c.pairs 32 (omega arith) i }

-- ---- the board

pub msg_put : (s : List ℕ) (x : Message) (k : ℕ) → length x.pairs ≡ 32 → 40 * k + 40 ≤ length s → msg_at (patch s (40 * k) (bytes_of x)) k ≡ x
unfolding msg_at
msg_put s x k l h = ap msg_of (patch_same s (bytes_of x) (40 * k) 40 (omega arith) h) ∙ rw (take_all 32 x.pairs (omega arith))

pub msg_kept : (s new : List ℕ) (k j : ℕ) → j < k → 40 * k ≤ length s → msg_at (patch s (40 * k) new) j ≡ msg_at s j
unfolding msg_at
msg_kept s new k j l h = ap msg_of (patch-below s new (40 * k) (40 * j) 40 (omega arith) (omega arith))

board_kept : (s new : List ℕ) (k n : ℕ) → n ≤ k → 40 * k ≤ length s → board_of (patch s (40 * k) new) n ≡ board_of s n
board_kept s new k zero l h = refl
board_kept s new k (suc n) l h = rw (board_kept s new k n (omega arith) h, msg_kept s new k n l h)

pub board_grows : (s : List ℕ) (x : Msg) (n : ℕ) → Small x → 40 * n + 40 ≤ length s → board_of (patch s (40 * n) (bytes_of (stored x))) (suc n) ≡ board_of s n ++ (x ∷ [])
board_grows s x n f h =
    rw (board_kept s (bytes_of (stored x)) n n (omega arith) (omega arith), msg_put s (stored x) n (msg_long x) h, msg_back x f)

pub length_board : (s : List ℕ) (n : ℕ) → length (board_of s n) ≡ n
length_board s zero = refl
length_board s (suc n) = length-append (board_of s n) (meaning (msg_at s n) ∷ []) ∙ omega (arith, length_board s n)

pub length-scans : (a b : List ℕ) (n : ℕ) → length (intake_of a b n) ≡ n
length-scans a b zero = refl
length-scans a b (suc n) = length-append (intake_of a b n) ((get_or a n 0, get_or b n 0) ∷ []) ∙ omega (arith, length-scans a b n)

-- ---- `any` with one more at the end

pub or_no : (b : Bool) → b || false ≡ b
or_no true = refl
or_no false = refl

pub any_last : {A : Type 0} (p : A → Bool) (l : List A) (x : A) → any p (l ++ (x ∷ [])) ≡ any p l || p x
any_last p [] x = or_no (p x)
any_last p (y ∷ l) x = ap (λ (b : Bool). p y || b) (any_last p l x) ∙ or_assoc (p y) (any p l) (p x)
  where
    or_assoc : (a b c : Bool) → a || (b || c) ≡ (a || b) || c
    or_assoc true b c = refl
    or_assoc false b c = refl

-- ---- the cells

pub place_in : (N R r n : ℕ) → 1 ≤ r → r ≤ R → n < N → place R r n < N * R
place_in N R r n a b c = let h : suc n * R ≤ N * R = mul-le-mul_right R c in omega arith

place_less : (R r n q a : ℕ) → 1 ≤ r → r ≤ R → n < a → place R r n < place R q a
place_less R r n q a x y l = let h : suc n * R ≤ a * R = mul-le-mul_right R l in omega arith

pub order : (a n : ℕ) → ¬ (a ≡ n) → (a < n) ⊎ (n < a)
order zero zero h = absurd (h refl)
order zero (suc n) h = inl (omega arith)
order (suc a) zero h = inr (omega arith)
order (suc a) (suc n) h = ⊎_elim (λ (l : a < n). inl (omega arith)) (λ (l : n < a). inr (omega arith)) (order a n (λ e. h (ap suc e)))

pub place-one : (R r n q a : ℕ) → 1 ≤ r → r ≤ R → 1 ≤ q → q ≤ R → place R q a ≡ place R r n → (q ≡ r) × (a ≡ n)
place-one R r n q a x y z w e = go (ℕ_discrete a n)
  where
    go : Dec (a ≡ n) → (q ≡ r) × (a ≡ n)
    go (yes d) = (let k : a * R ≡ n * R = ap (λ (t : ℕ). t * R) d in omega arith, d)
    go (no d) = absurd (⊎_elim (λ (l : a < n). let k = place_less R q a r n z w l in omega arith) (λ (l : n < a). let k = place_less R r n q a x y l in omega arith) (order a n d))

-- the test of a place, as the reading makes it
pub record At (ρ : Room) (r n : ℕ) : Type 0 where
  pub low : 1 ≤ r
  pub high : r ≤ ρ.rows
  pub node : n < ρ.nodes

pub at_in : (ρ : Room) (r n : ℕ) → T (in_room ρ r n) → At ρ r n
at_in ρ r n t = record {
  low = leb→le 1 r (and_l (leb 1 r) (leb r ρ.rows) (and_l (row_in ρ r) (ltb n ρ.nodes) t));
  high = leb→le r ρ.rows (and_r (leb 1 r) (leb r ρ.rows) (and_l (row_in ρ r) (ltb n ρ.nodes) t));
  node = ltb→lt n ρ.nodes (and_r (row_in ρ r) (ltb n ρ.nodes) t);
}

pub in_at : (ρ : Room) (r n : ℕ) → At ρ r n → in_room ρ r n ≡ true
in_at ρ r n p = rw (le-leb 1 r p.low, le-leb r ρ.rows p.high, lt-ltb n ρ.nodes p.node)

-- one cell is set, the others stay
module _ (ρ : Room) (s : List ℕ) (r n : ℕ) (c : Cell) (p : At ρ r n) (fits : 36 * (ρ.nodes * ρ.rows) ≤ length s) (back : meaning_cell (stored_cell c) ≡ c) where
  abbrev s' : List ℕ
  s' = patch s (36 * place ρ.rows r n) (encode (stored_cell c))

  inside : place ρ.rows r n < ρ.nodes * ρ.rows
  inside = place_in ρ.nodes ρ.rows r n p.low p.high p.node

  same_cell : cells_of ρ s' r n ≡ c
  same_cell = rw (in_at ρ r n p)
      (ap meaning_cell (cell-put s (stored_cell c) (place ρ.rows r n) (length-fit 32 (flatten c.pairs)) (omega (arith, inside))) ∙ back)

  other-cell : (q a : ℕ) → ((q ≡ r) × (a ≡ n) → ⊥) → cells_of ρ s' q a ≡ cells_of ρ s q a
  other-cell q a h = go (in_room ρ q a) refl
    where
      go : (b : Bool) → in_room ρ q a ≡ b → pick b (meaning_cell (cell_at s' (place ρ.rows q a))) fresh ≡ pick b (meaning_cell (cell_at s (place ρ.rows q a))) fresh
      go true e = let u = at_in ρ q a (rw e tt) in
          ap meaning_cell (cell-kept s (encode (stored_cell c)) (place ρ.rows r n) (place ρ.rows q a) (ap (λ (t : ℕ). suc (suc (suc (suc t)))) (length-fit 32 (flatten c.pairs))) (omega (arith, inside))
          (λ z. h (place-one ρ.rows r n q a p.low p.high u.low u.high z)))
      go false e = refl

  pub cells_set : cells_of ρ s' ≡ set_cell (cells_of ρ s) r n c
  cells_set = fun_ext (λ q. fun_ext (λ a. go q a (ℕ_discrete q r) (ℕ_discrete a n)))
    where
      go : (q a : ℕ) → Dec (q ≡ r) → Dec (a ≡ n) → cells_of ρ s' q a ≡ set_cell (cells_of ρ s) r n c q a
      go q a (yes d) (yes e) = rw (d, e, eq-eqb r r refl, eq-eqb n n refl) same_cell
      go q a (no d) x = rw (ne_eqb q r d) (other-cell q a (λ z. d z.0))
      go q a (yes d) (no e) = rw (ne_eqb a n e, and-false (eqb q r)) (other-cell q a (λ z. e z.1))

-- ---- the heard bits

or_yes : (a b : Bool) → b ≡ true → a || b ≡ true
or_yes true b e = refl
or_yes false b e = e

pub heard_set : (ρ : Room) (s : List ℕ) (n k : ℕ) → n < ρ.nodes → k < 1024 → 128 * ρ.nodes ≤ length s
    → heard_of ρ (set_bit s n k) ≡ (λ a j. (eqb a n && eqb j k) || heard_of ρ s a j)
unfolding heard_at
heard_set ρ s n k hn hk l = fun_ext (λ a. fun_ext (λ j. go a j (ltb a ρ.nodes) refl (ltb j 1024) refl))
  where
    at : ℕ
    at = 128 * n + k / 8

    inside : at < length s
    inside = omega arith

    -- the same byte: the bit decides
    byte : (a j : ℕ) → 128 * a + j / 8 ≡ at → j < 1024 → (b : Bool) → eqb (j % 8) (k % 8) ≡ b → heard_at (set_bit s n k) a j ≡ (eqb a n && eqb j k) || heard_at s a j
    byte a j e hj true d =
        let f : j % 8 ≡ k % 8 = eqb-true (j % 8) (k % 8) d in
        let u : a ≡ n = omega arith in
        let v : j ≡ k = omega arith in
        rw (u, v, eq-eqb n n refl, eq-eqb k k refl, get_or-set_same s at (bit_or (get_or s at 0) (2 ^ (k % 8))) 0 inside, mark_bit, eq-eqb (k % 8) (k % 8) refl) (or_yes (bit (get_or s at 0) (k % 8)) true refl)
    byte a j e hj false d =
        let f : j ≡ k → ⊥ = λ z. eqb-false (j % 8) (k % 8) d (ap (λ (t : ℕ). t % 8) z) in
        rw (e, ne_eqb j k f, and-false (eqb a n), get_or-set_same s at (bit_or (get_or s at 0) (2 ^ (k % 8))) 0 inside, mark_bit, d) (or_no (bit (get_or s at 0) (j % 8)))

    here : (a j : ℕ) → Dec (128 * a + j / 8 ≡ at) → j < 1024 → heard_at (set_bit s n k) a j ≡ (eqb a n && eqb j k) || heard_at s a j
    here a j (yes e) hj = byte a j e hj (eqb (j % 8) (k % 8)) refl
    here a j (no e) hj = rw (get_or-set_other s at (128 * a + j / 8) (bit_or (get_or s at 0) (2 ^ (k % 8))) 0 e) (sym (rw (off (eqb a n) refl)))
      where
        off : (b : Bool) → eqb a n ≡ b → (b && eqb j k) ≡ false
        off true d = ne_eqb j k (λ z. e (let u = eqb-true a n d in rw (u, z)))
        off false d = refl

    go : (a j : ℕ) (x : Bool) → ltb a ρ.nodes ≡ x → (y : Bool) → ltb j 1024 ≡ y → (x && y) && heard_at (set_bit s n k) a j ≡ (eqb a n && eqb j k) || ((x && y) && heard_at s a j)
    go a j true p true q = here a j (ℕ_discrete (128 * a + j / 8) at) (ltb-true j 1024 q)
    go a j true p false q = rw (ne_eqb j k (λ e. omega (arith, ltb-false j 1024 q)), and-false (eqb a n))
    go a j false p y q = rw (ne_eqb a n (λ e. omega (arith, ltb-false a ρ.nodes p)))

-- ---- intake

intake_kept : (a b : List ℕ) (n i x y : ℕ) → n ≤ i → intake_of (set a i x) (set b i y) n ≡ intake_of a b n
intake_kept a b zero i x y h = refl
intake_kept a b (suc n) i x y h =
    rw (intake_kept a b n i x y (omega arith), get_or-set_other a i n x 0 (λ e. omega arith), get_or-set_other b i n y 0 (λ e. omega arith))

pub intake_grows : (a b : List ℕ) (n x y : ℕ) → n < length a → n < length b → intake_of (set a n x) (set b n y) (suc n) ≡ intake_of a b n ++ ((x, y) ∷ [])
intake_grows a b n x y h k = rw (intake_kept a b n n x y (omega arith), get_or-set_same a n x 0 h, get_or-set_same b n y 0 k)
