-- Heard bits stand only at 1b messages: a byte is looked at whole, beside a byte that has the bits of the 1b messages.
use mathlib.Core.Path.{◌≡◌, refl, ap, sym, ◌∙◌}
use mathlib.Core.Bool.{Bool, true, false, not, ◌&&◌, ◌||◌, and-false, and-true}
use mathlib.Core.List.{List, [], ◌∷◌, ◌++◌}
use Prim.Native.Nat.{ℕ, zero, suc, ◌+◌, ◌*◌, ◌/◌, ◌%◌, ◌^◌, ◌<◌}
use native.Mathlib.Nat.{add-zero, div-one}
use native.Mathlib.Numerals.{add-one}
use native.Mathlib.Omega.{arith}
use borrow.Author.Tests.{eqb-true, eq-eqb, ne_eqb, leb-true, leb-false, lt-ltb}
use lib.Bits.{bit_and, bit_or, and_le_l, or_zero_r}
use lib.Dec.{eqb, leb, eqb-zero-suc, eqb-suc-zero, eqb-suc-suc}
use lib.ListN.{length, get_or, drop, set, length-set, replicate, get_or-replicate, length-replicate}
use lib.Pow.{shr_lt}
use lib.Seq.{get_or-take, get_or-drop, set-get_or}
use Rattle.rules.specs.Tests.{pick, all_below, bit, one}
use Rattle.rules.specs.Words.{Msg, kind_of, Room}
use Rattle.rules.specs.Lent.{msg_at, meaning, board_of, heard_at, set_bit, is1b, is_1b_at}
use Rattle.rules.specs.declared.Message.{Message}
use Rattle.rules.proofs.Nodes.{digit, one_digit, bit_suc, zero_bit, bit-bit_and}
use Rattle.rules.proofs.Codec.{or_no, length_board, heard_set}
use Rattle.rules.proofs.Scan.{both_ways}
use Rattle.board.proofs.Means.{kind_in, kind_out, is1b_kind}
use Rattle.form.specs.Form.{Promises, promise_bit, byte_in}
use Rattle.rules.proofs.Each.{each_at, each_all, each_same, each_parts}

-- ---- a byte by its bits

low_digit : (x : ℕ) → one (bit x 0) ≡ x % 2
low_digit x = rw div-one (one_digit (x % 2) (digit x))

-- two numbers with the same k bits
bits_same : (k x y : ℕ) → x < 2 ^ k → y < 2 ^ k → ((i : ℕ) → i < k → bit x i ≡ bit y i) → x ≡ y
bits_same zero x y h l f = omega arith
bits_same (suc k) x y h l f =
    let u : x / 2 < 2 ^ k = shr_lt k 1 (rw add-one h) in
    let v : y / 2 < 2 ^ k = shr_lt k 1 (rw add-one l) in
    let e : x / 2 ≡ y / 2 = bits_same k (x / 2) (y / 2) u v (λ i p. sym (bit_suc x i) ∙ f (suc i) (omega arith) ∙ bit_suc y i) in
    let d : x % 2 ≡ y % 2 = sym (low_digit x) ∙ ap one (f 0 (omega arith)) ∙ low_digit y in
    omega arith

-- what `x & m == x` says: each bit of x is one of m
pub byte_in_bits : (k x m : ℕ) → x < 2 ^ k → eqb (bit_and x m) x ≡ all_below (λ i. not (bit x i) || bit m i) k
byte_in_bits k x m h = both_ways (eqb (bit_and x m) x) (all_below (λ i. not (bit x i) || bit m i) k) to from
  where
    yes : (a b : Bool) → a && b ≡ a → not a || b ≡ true
    yes true b e = e
    yes false b e = refl

    kept : (a b : Bool) → not a || b ≡ true → a && b ≡ a
    kept true b e = e
    kept false b e = refl

    to : eqb (bit_and x m) x ≡ true → all_below (λ i. not (bit x i) || bit m i) k ≡ true
    to e = each_all (λ i. not (bit x i) || bit m i) k
        (λ i l. yes (bit x i) (bit m i) (sym (bit-bit_and x m i) ∙ ap (λ (z : ℕ). bit z i) (eqb-true (bit_and x m) x e)))

    from : all_below (λ i. not (bit x i) || bit m i) k ≡ true → eqb (bit_and x m) x ≡ true
    from e = eq-eqb (bit_and x m) x
        (bits_same k (bit_and x m) x (omega (arith, and_le_l x m)) h (λ i l. bit-bit_and x m i ∙ kept (bit x i) (bit m i) (each_at (λ j. not (bit x j) || bit m j) k i e l)))

-- ---- the 1b messages by their first byte

-- a first byte of 2 means a 1b
first_2 : (m : Message) → is1b (meaning m) ≡ eqb m.kind 2
first_2 m = is1b_kind (meaning m) ∙ go (leb 1 m.kind) (leb m.kind 4) refl refl
  where
    go : (a b : Bool) → leb 1 m.kind ≡ a → leb m.kind 4 ≡ b → eqb (kind_of (meaning m)) 2 ≡ eqb m.kind 2
    go true true p q = ap (λ (z : ℕ). eqb z 2) (kind_in m (leb-true 1 m.kind p) (leb-true m.kind 4 q))
    go true false p q =
        let h : 4 < m.kind = leb-false m.kind 4 q in
        ap (λ (z : ℕ). eqb z 2) (kind_out m (λ e. omega (arith, e)) (λ e. omega (arith, e)) (λ e. omega (arith, e)) (λ e. omega (arith, e))) ∙ sym (ne_eqb m.kind 2 (λ z. omega arith))
    go false b p q =
        let h : m.kind < 1 = leb-false 1 m.kind p in
        ap (λ (z : ℕ). eqb z 2) (kind_out m (λ e. omega (arith, e)) (λ e. omega (arith, e)) (λ e. omega (arith, e)) (λ e. omega (arith, e))) ∙ sym (ne_eqb m.kind 2 (λ z. omega arith))

first_byte : (s : List ℕ) (k : ℕ) → (msg_at s k).kind ≡ get_or s (40 * k) 0
unfolding msg_at
first_byte s k = get_or-take 40 (drop (40 * k) s) 0 0 (omega arith) ∙ get_or-drop (40 * k) s 0 0 ∙ ap (λ (i : ℕ). get_or s i 0) (add-zero (40 * k))

-- one message more
promise_last : (l : List Msg) (x : Msg) (j : ℕ) → is_1b_at (l ++ (x ∷ [])) j ≡ (eqb j (length l) && is1b x) || is_1b_at l j
promise_last [] x zero = sym (or_no (is1b x))
promise_last [] x (suc j) = rw (eqb-suc-zero j)
promise_last (y ∷ l) x zero = rw (eqb-zero-suc (length l))
promise_last (y ∷ l) x (suc j) = rw (eqb-suc-suc j (length l)) (promise_last l x j)

promise-more : (s : List ℕ) (k j : ℕ) → is_1b_at (board_of s (k + 1)) j ≡ (eqb j k && eqb (get_or s (40 * k) 0) 2) || is_1b_at (board_of s k) j
promise-more s k j =
    rw (add-one, promise_last (board_of s k) (meaning (msg_at s k)) j, length_board s k, first_2 (msg_at s k), first_byte s k)

-- ---- the bits of the 1b messages are one node's heard bytes

alone : Room
alone = record { nodes = 1; faulty = 0; rows = 0; capacity = 0; quorums = []; weaks = [] }

set-one : (r : List ℕ) (k j : ℕ) → length r ≡ 128 → k < 1024 → j < 1024 → heard_at (set_bit r 0 k) 0 j ≡ eqb j k || heard_at r 0 j
unfolding alone
set-one r k j l h i =
    rw (lt-ltb j 1024 i) at (ap (λ (f : ℕ → ℕ → Bool). f 0 j) (heard_set alone r 0 k (omega arith) h (omega arith)))

pub promises_none : (s : List ℕ) → Promises s 0 (replicate 128 0)
unfolding heard_at
promises_none s = record { long = length-replicate {A = ℕ} 128 0; bits = λ j h. rw (get_or-replicate {A = ℕ} 128 (128 * 0 + j / 8) 0 0 (omega arith)) (zero_bit (j % 8)) }

pub promises_more : (s r : List ℕ) (k : ℕ) → k < 1024 → Promises s k r
    → Promises s (k + 1) (set r (k / 8) (bit_or (get_or r (k / 8) 0) (promise_bit (get_or s (40 * k) 0) k)))
promises_more s r k h p = record { long = length-set r (k / 8) _ ∙ p.long; bits = λ j l. go j l (eqb (get_or s (40 * k) 0) 2) refl }
  where
    at : 128 * 0 + k / 8 ≡ k / 8
    at = omega arith

    go : (j : ℕ) → j < 1024 → (b : Bool) → eqb (get_or s (40 * k) 0) 2 ≡ b
        → heard_at (set r (k / 8) (bit_or (get_or r (k / 8) 0) (pick b (2 ^ (k % 8)) 0))) 0 j ≡ is_1b_at (board_of s (k + 1)) j
    go j l true e =
        rw (promise-more s k j, e, and-true (eqb j k), ← p.bits j l) (rw at at (set-one r k j p.long h l))
    go j l false e =
        rw (promise-more s k j, e, and-false (eqb j k), or_zero_r, set-get_or r (k / 8) 0) (p.bits j l)

-- ---- all heard bytes

one_byte : (s heard r : List ℕ) (n a t : ℕ) → Promises s n r → get_or heard (128 * a + t) 0 < 256 → t < 128
    → byte_in heard r (128 * a + t) ≡ all_below (λ i. not (heard_at heard a (8 * t + i)) || is_1b_at (board_of s n) (8 * t + i)) 8
unfolding heard_at
one_byte s heard r n a t p h l =
    let m : (128 * a + t) % 128 ≡ t = omega arith in
    rw m
    (byte_in_bits 8 (get_or heard (128 * a + t) 0) (get_or r t 0) h
    ∙ each_same (λ i. not (bit (get_or heard (128 * a + t) 0) i) || bit (get_or r t 0) i) (λ i. not (heard_at heard a (8 * t + i)) || is_1b_at (board_of s n) (8 * t + i)) 8 bits)
  where
    bits : (i : ℕ) → i < 8 → not (bit (get_or heard (128 * a + t) 0) i) || bit (get_or r t 0) i ≡ not (heard_at heard a (8 * t + i)) || is_1b_at (board_of s n) (8 * t + i)
    bits i b =
        let u : (8 * t + i) / 8 ≡ t = omega arith in
        let v : (8 * t + i) % 8 ≡ i = omega arith in
        let w : 128 * 0 + t ≡ t = omega arith in
        rw (← p.bits (8 * t + i) (omega arith), u, v, w)

pub heard_formed : (s heard r : List ℕ) (n nodes : ℕ) → Promises s n r → ((t : ℕ) → get_or heard t 0 < 256)
    → all_below (byte_in heard r) (128 * nodes) ≡ all_below (λ a. all_below (λ k. not (heard_at heard a k) || is_1b_at (board_of s n) k) 1024) nodes
heard_formed s heard r n nodes p h =
    each_parts (byte_in heard r) 128 nodes
    ∙ each_same (λ a. all_below (λ t. byte_in heard r (128 * a + t)) 128) (λ a. all_below (λ k. not (heard_at heard a k) || is_1b_at (board_of s n) k) 1024) nodes
    (λ a l. each_same (λ t. byte_in heard r (128 * a + t)) (λ t. all_below (λ i. not (heard_at heard a (8 * t + i)) || is_1b_at (board_of s n) (8 * t + i)) 8) 128 (λ t b. one_byte s heard r n a t p (h (128 * a + t)) b)
    ∙ sym (each_parts (λ k. not (heard_at heard a k) || is_1b_at (board_of s n) k) 8 128))
