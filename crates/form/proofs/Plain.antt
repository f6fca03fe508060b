-- A stored cell or message is plain and good: tests on the struct's fields.
use mathlib.Core.Path.{◌≡◌, refl, ap, sym, ◌∙◌}
use mathlib.Core.Bool.{Bool, true, false, ◌&&◌, and-false}
use mathlib.Core.List.{List, [], ◌++◌}
use Prim.Native.Nat.{ℕ, zero, suc, ◌+◌, ◌*◌, ◌≤◌}
use native.Mathlib.Omega.{arith}
use borrow.Author.Tests.{eq-eqb, ne_eqb}
use lib.Dec.{T, eqb, leb, ltb, leb→le, eqb-suc-zero}
use lib.ListN.{length, get_or, take, drop, length-drop, take-append-drop}
use lib.Seq.{take_all}
use Rattle.rules.specs.Tests.{all, all_below, eqs}
use Rattle.rules.specs.Words.{tube_in, bal_in, height_of, height_byte, Room}
use Rattle.rules.specs.Lent.{window, pairs_of, pair_bytes, bytes_of, msg_at, meaning, stored, board_of, encode, cell_at, meaning_cell, stored_cell, row_in, pairs_in, limits, scanned, plain_msg, good_msg, plain_cell, good_cell, cell_form}
use Rattle.rules.specs.Replies.{pairs_plain}
use Rattle.rules.specs.declared.Message.{Message}
use Rattle.rules.specs.declared.Cell as cell_as_stored
use Rattle.rules.proofs.Sound.{and_l, and_r}
use Rattle.form.specs.Form.{lacking, held, paired, message_fields, message_formed, cell_formed}
use Rattle.rules.proofs.Each.{each_both, each_same, build, board_build, take-build, all_build}
use Rattle.rules.proofs.Forms.{length_pairs, height_back, length-window}

-- ---- the bytes of a window are those of its struct

whole : (w : List ℕ) (k : ℕ) → length w ≡ k + 32 → build (λ i. get_or w i 0) k ++ take 32 (drop k w) ≡ w
whole w k e =
    let h : k ≤ length w = omega arith in
    let l : length (drop k w) ≤ 32 = simp length-drop (omega arith) in
    ap (λ (t : List ℕ). build (λ i. get_or w i 0) k ++ t) (take_all 32 (drop k w) l)
    ∙ ap (λ (t : List ℕ). t ++ drop k w) (sym (take-build w k h))
    ∙ take-append-drop k w

-- ---- cells

same_cell : (c : cell_as_stored.Cell) → eqs (encode c) (encode (stored_cell (meaning_cell c))) ≡ pairs_plain c.count c.pairs
same_cell c =
    rw (height_back c.maxbal, height_back c.maxvbal, length_pairs c.count c.pairs, eq-eqb c.maxbal c.maxbal refl, eq-eqb c.maxvbal c.maxvbal refl, eq-eqb c.maxvval c.maxvval refl, eq-eqb c.count c.count refl)

-- a cell's tests, as the rules and as the code order them
kept : (z x y i a : Bool) → z && (x && (y && (i && a))) ≡ (x && y) && ((i && z) && a)
kept z true true true a = refl
kept z true true false a = and-false z
kept z true false i a = and-false z
kept z false y i a = and-false z

-- what a cell's form says, by the tests of its parts
pub cell_are : (t : ℕ) (c : cell_as_stored.Cell) (a b : Bool) → a ≡ leb (height_of c.maxbal) 16 → b ≡ leb (height_of c.maxvbal) 16
    → cell_formed t c ≡ ((a && b) && (leb c.maxvval 64 && leb c.maxvval t)) && paired t c.count c.pairs
unfolding good_cell
cell_are t c a b p q =
    rw (p, q)
    (kept (pairs_plain c.count c.pairs) (leb (height_of c.maxbal) 16 && leb (height_of c.maxvbal) 16) (leb c.maxvval 64 && leb c.maxvval t) (pairs_in (pairs_of c.count c.pairs)) (all (λ p. leb p.0 t) (pairs_of c.count c.pairs)))

-- sixteen pairs at most
pub pairs_few : (c : ℕ) (l : List ℕ) → pairs_in (pairs_of c l) && pairs_plain c l ≡ true → c ≤ 16
pairs_few c l e =
    let t : T (pairs_in (pairs_of c l) && pairs_plain c l) = rw e tt in
    let h : length (pairs_of c l) ≤ 16 = search (leb→le, and_l, and_r) depth 9 in
    omega (arith, length_pairs c l)

-- the cell numbered k is in form
pub cell_formed_at : (t : ℕ) (s : List ℕ) (k : ℕ) → 36 * k + 36 ≤ length s → cell_form t s k ≡ cell_formed t (cell_at s k)
unfolding plain_cell
cell_formed_at t s k h =
    let w = window 36 k s in
    ap (λ (b : Bool). b && good_cell t (meaning_cell (cell_at s k)))
    (ap (λ (z : List ℕ). eqs z (encode (stored_cell (meaning_cell (cell_at s k))))) (sym (whole w 4 (length-window 36 k s h))) ∙ same_cell (cell_at s k))

-- ---- messages

-- the bytes of the message numbered k
pub msg_bytes : (s : List ℕ) (k : ℕ) → 40 * k + 40 ≤ length s → bytes_of (msg_at s k) ≡ window 40 k s
unfolding msg_at
msg_bytes s k h = whole (window 40 k s) 8 (length-window 40 k s h)

-- fields that a kind lacks, and no pairs
bare : (x y c : ℕ) (l : List ℕ) (t : ℕ) (g : Bool)
    → (eqb x 0 && (eqb y 0 && (eqb c 0 && eqs l (pair_bytes [])))) && g ≡ ((eqb x 0 && (eqb y 0 && eqb c 0)) && g) && paired t c l
bare x y zero l t g = go (eqb x 0) (eqb y 0) (eqs l (pair_bytes [])) g
  where
    go : (a b z g : Bool) → (a && (b && z)) && g ≡ ((a && (b && true)) && g) && (z && true)
    go true true z true = refl
    go true true z false = and-false z
    go true false z g = refl
    go false b z g = refl
bare x y (suc c) l t g = rw (eqb-suc-zero c) (go (eqb x 0) (eqb y 0) (paired t (suc c) l))
  where
    go : (a b q : Bool) → (a && (b && false)) && g ≡ ((a && (b && false)) && g) && q
    go true true q = refl
    go true false q = refl
    go false b q = refl

-- one field before them
behind : (a p b g q : Bool) → p && g ≡ (b && g) && q → (a && p) && g ≡ ((a && b) && g) && q
behind true p b g q e = e
behind false p b g q e = refl

-- a 1b's tests, as the rules and as the code order them
promised : (v z r n h y i k a : Bool) → (v && z) && ((r && (n && (h && (y && i)))) && (k && a)) ≡ (v && (r && (n && (h && (y && k))))) && ((i && z) && a)
promised false z r n h y i k a = refl
promised true z false n h y i k a = and-false z
promised true z true false h y i k a = and-false z
promised true z true true false y i k a = and-false z
promised true z true true true false i k a = and-false z
promised true false true true true true i k a = simp and-false
promised true true true true true true true true a = refl
promised true true true true true true true false a = refl
promised true true true true true true false k a = sym (and-false k)

-- a tube that is in its limits and on intake
tubed : (r v k : Bool) → (r && v) && k ≡ r && (v && k)
tubed true v k = refl
tubed false v k = refl

-- another kind is not stored so
strange : (ρ : Room) (t : ℕ) (m : Message) → (m.kind ≡ 1 → ⊥) → (m.kind ≡ 2 → ⊥) → (m.kind ≡ 3 → ⊥) → (m.kind ≡ 4 → ⊥) → (m.kind ≡ 5 → ⊥)
    → message_formed ρ t m ≡ message_fields ρ.nodes ρ.rows t m
unfolding meaning stored lacking
strange ρ t m a b c d e = rw (ne_eqb m.kind 1 a, ne_eqb m.kind 2 b, ne_eqb m.kind 3 c, ne_eqb m.kind 4 d, ne_eqb m.kind 5 e)

-- a message is plain and good
formed : (ρ : Room) (t k r b n v x y c : ℕ) (l : List ℕ) → let m : Message = record { kind = k; row = r; bal = b; node = n; tube = v; mbal = x; mval = y; count = c; pairs = l } in
    message_formed ρ t m ≡ message_fields ρ.nodes ρ.rows t m
unfolding meaning stored good_msg limits scanned lacking held
formed ρ t zero r b n v x y c l = refl
formed ρ t (suc zero) r b n v x y c l =
    let g = (row_in ρ r && bal_in b) && true in
    let q = paired t c l in
    rw (eq-eqb r r refl, eq-eqb b b refl) (behind (eqb n 0) _ _ g q (behind (eqb v 0) _ _ g q (bare x y c l t g)))
formed ρ t (suc (suc zero)) r b n v x y c l =
    rw (eq-eqb r r refl, eq-eqb b b refl, eq-eqb n n refl, eq-eqb x (height_byte (height_of x)) (sym (height_back x)), eq-eqb y y refl, eq-eqb c (length (pairs_of c l)) (sym (length_pairs c l)))
    (promised (eqb v 0) (pairs_plain c l) (row_in ρ r && bal_in b) (ltb n ρ.nodes) (leb (height_of x) 16) (leb y 64) (pairs_in (pairs_of c l)) (leb y t) (all (λ p. leb p.0 t) (pairs_of c l)))
formed ρ t (suc (suc (suc zero))) r b n v x y c l =
    let g = (row_in ρ r && bal_in b) && (tube_in v && leb v t) in
    rw (eq-eqb r r refl, eq-eqb b b refl, eq-eqb v v refl, tubed (row_in ρ r && bal_in b) (tube_in v) (leb v t))
    (behind (eqb n 0) _ _ g (paired t c l) (bare x y c l t g))
formed ρ t (suc (suc (suc (suc zero)))) r b n v x y c l =
    let g = (row_in ρ r && bal_in b) && (ltb n ρ.nodes && (tube_in v && leb v t)) in
    rw (eq-eqb r r refl, eq-eqb b b refl, eq-eqb n n refl, eq-eqb v v refl, tubed (row_in ρ r && bal_in b) (ltb n ρ.nodes && tube_in v) (leb v t), tubed (ltb n ρ.nodes) (tube_in v) (leb v t))
    (bare x y c l t g)
formed ρ t (suc (suc (suc (suc (suc zero))))) r b n v x y c l =
    let g = (row_in ρ r && bal_in b) && (ltb n ρ.nodes && (tube_in v && leb v t)) in
    rw (eq-eqb r r refl, eq-eqb b b refl, eq-eqb n n refl, eq-eqb v v refl, tubed (row_in ρ r && bal_in b) (ltb n ρ.nodes && tube_in v) (leb v t), tubed (ltb n ρ.nodes) (tube_in v) (leb v t))
    (bare x y c l t g)
formed ρ t (suc (suc (suc (suc (suc (suc k)))))) r b n v x y c l =
    strange ρ t (record { kind = suc (suc (suc (suc (suc (suc k))))); row = r; bal = b; node = n; tube = v; mbal = x; mval = y; count = c; pairs = l })
    (λ e. omega arith) (λ e. omega arith) (λ e. omega arith) (λ e. omega arith) (λ e. omega arith)

-- the message numbered k is plain and good
pub message_formed_at : (ρ : Room) (t : ℕ) (s : List ℕ) (k : ℕ) → 40 * k + 40 ≤ length s
    → plain_msg s k && good_msg ρ t (meaning (msg_at s k)) ≡ message_fields ρ.nodes ρ.rows t (msg_at s k)
unfolding plain_msg
message_formed_at ρ t s k h =
    let m = msg_at s k in
    ap (λ (z : List ℕ). eqs z (bytes_of (stored (meaning m))) && good_msg ρ t (meaning m)) (sym (msg_bytes s k h))
    ∙ formed ρ t m.kind m.row m.bal m.node m.tube m.mbal m.mval m.count m.pairs

-- the first n messages are plain and good
pub messages_are : (ρ : Room) (t : ℕ) (s : List ℕ) (n : ℕ) → 40 * n ≤ length s
    → all_below (plain_msg s) n && all (good_msg ρ t) (board_of s n) ≡ all_below (λ k. message_fields ρ.nodes ρ.rows t (msg_at s k)) n
messages_are ρ t s n h =
    ap (λ (b : Bool). all_below (plain_msg s) n && b) (ap (all (good_msg ρ t)) (board_build s n) ∙ all_build (good_msg ρ t) (λ k. meaning (msg_at s k)) n)
    ∙ sym (each_both (plain_msg s) (λ k. good_msg ρ t (meaning (msg_at s k))) n)
    ∙ each_same (λ k. plain_msg s k && good_msg ρ t (meaning (msg_at s k))) (λ k. message_fields ρ.nodes ρ.rows t (msg_at s k)) n (λ k l. message_formed_at ρ t s k (omega arith))
