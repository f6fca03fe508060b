-- What is written reads back, what is in form writes back, and what the form says of each field.
use mathlib.Core.Path.{◌≡◌, refl, sym, ap, subst, ◌∙◌}
use mathlib.Core.Bool.{Bool, true, false, not, ◌&&◌, ◌||◌}
use mathlib.Core.Logic.{⊎_elim}
use mathlib.Core.List.{List, [], ◌∷◌}
use Prim.Native.Nat.{ℕ, zero, suc, ◌+◌, ◌-◌, ◌*◌, ◌≤◌, ◌<◌}
use native.Mathlib.Nat.{mul-suc, mul-le-mul_left, sub-zero, zero-sub, suc-sub-suc}
use native.Mathlib.Omega.{arith}
use borrow.Author.Tests.{lt-ltb, eqb-true}
use lib.Dec.{T, eqb, leb, eqb_refl, leb→le, leb-suc-suc, ltb, T_not}
use lib.ListN.{length, take, drop, length-take, length-drop, take-append-drop}
use lib.Seq.{take_all, drop-cons}
use Rattle.rules.specs.Tests.{pick, eqs, fit}
use Rattle.rules.specs.Words.{height_of, height_byte, Pair, Msg, m1a, m1b, m1c, m2av, m2b, Cell, Room, bal_in, tube_in}
use Rattle.rules.specs.declared.Message.{Message}
use Rattle.rules.specs.declared.Cell as cell_as_stored
use Rattle.rules.specs.Lent.{window, patch, pairs_of, flatten, msg_of, bytes_of, msg_at, meaning, stored, line, cell_of, encode, cell_at, meaning_cell, stored_cell, row_in, limits, pairs_in, plain_msg, plain_cell, good_cell}
use Rattle.rules.specs.Promises.{MsgReadsBack, CellReadsBack, BitReadsBack, MsgWritesBack, CellWritesBack, Unused, Plain, MsgForm, Within, MsgLimits, CellForm}
use Rattle.rules.proofs.Sound.{and_l, and_r, and_two}
use Rattle.rules.proofs.Area.{patch-below, patch_above, cell-put}
use Rattle.rules.proofs.Codec.{Small, length-fit, msg_back, msg_long, cell_back, msg_put, or_no, order, heard_set}
use Rattle.rules.proofs.Scan.{eqs_means}

-- ---- lists that the test finds equal

pub eqs_same : (l : List ℕ) → T (eqs l l)
eqs_same [] = tt
eqs_same (x ∷ l) = go (eqb x x) (eqb_refl x) (eqs_same l)
  where
    go : (b : Bool) → T b → T (eqs l l) → T (b && eqs l l)
    go true t u = u
    go false t u = absurd t

-- ---- parts of an area

-- a part beside the one that was written
pub window-kept : (w : ℕ) (s new : List ℕ) (k j : ℕ) → length new ≡ w → w * k + w ≤ length s → ¬ (j ≡ k) → window w j (patch s (w * k) new) ≡ window w j s
window-kept w s new k j l h d =
    ⊎_elim
    (λ (p : j < k). let q : w * suc j ≤ w * k = mul-le-mul_left w p in patch-below s new (w * k) (w * j) w (omega (arith, mul-suc w j)) (omega arith))
    (λ (p : k < j). let q : w * suc k ≤ w * j = mul-le-mul_left w p in ap (take w) (patch_above s new (w * k) (w * j) (omega (arith, mul-suc w k)) (omega arith)))
    (order j k d)

-- a part that is written as it stands
drop_taken : (w : ℕ) (l : List ℕ) → drop (length (take w l)) l ≡ drop w l
drop_taken zero l = refl
drop_taken (suc w) [] = refl
drop_taken (suc w) (x ∷ l) = drop_taken w l

pub patch-own : (s : List ℕ) (a w : ℕ) → patch s a (take w (drop a s)) ≡ s
patch-own s a w = rw (drop_taken w (drop a s), take-append-drop w (drop a s)) (take-append-drop a s)

-- a whole part is within the area
pub window_in : (w k : ℕ) (s : List ℕ) → 0 < w → length (window w k s) ≡ w → w * k + w ≤ length s
window_in w k s h e = let l = simp (length-take, length-drop) at e in omega arith

pub length-window : (w k : ℕ) (s : List ℕ) → w * k + w ≤ length s → length (window w k s) ≡ w
length-window w k s h = simp (length-take, length-drop) (omega arith)

-- ---- what is written reads back

pub small : (ρ : Room) (x : Msg) → T (limits ρ x) → Small x
unfolding limits
small ρ (m1a r b) t = tt
small ρ (m1b r b n x y l) t =
    let a : x ≤ 16 = search (leb→le, and_l, and_r) depth 9 in
    let d : length l ≤ 16 = search (leb→le, and_l, and_r) depth 9 in
    (omega arith, d)
small ρ (m1c r b v) t = tt
small ρ (m2av r b n v) t = tt
small ρ (m2b r b n v) t = tt

pub long_bytes : (x : Msg) → length (bytes_of (stored x)) ≡ 40
long_bytes x = ap (λ (t : ℕ). suc (suc (suc (suc (suc (suc (suc (suc t)))))))) (msg_long x)

pub long-cell : (c : Cell) → length (encode (stored_cell c)) ≡ 36
long-cell c = ap (λ (t : ℕ). suc (suc (suc (suc t)))) (length-fit 32 (flatten c.pairs))

pub msg_reads_back : MsgReadsBack
unfolding msg_at
msg_reads_back ρ s k x t h = record {
  own = ap meaning (msg_put s (stored x) k (msg_long x) h) ∙ msg_back x (small ρ x t);
  others = λ j d. ap msg_of (window-kept 40 s (bytes_of (stored x)) k j (long_bytes x) h d);
}

pub cell_reads_back : CellReadsBack
unfolding good_cell
cell_reads_back n s k c t h =
    let p : c.max_bal ≤ 16 = search (leb→le, and_l, and_r) depth 9 in
    let q : c.max_vbal ≤ 16 = search (leb→le, and_l, and_r) depth 9 in
    let l : length c.pairs ≤ 16 = search (leb→le, and_l, and_r) depth 9 in
    record {
      own = ap meaning_cell (cell-put s (stored_cell c) k (length-fit 32 (flatten c.pairs)) h) ∙ cell_back c (omega arith) (omega arith) l;
      others = λ j d. ap cell_of (window-kept 36 s (encode (stored_cell c)) k j (long-cell c) h d);
    }

pub bit_reads_back : BitReadsBack
bit_reads_back ρ s l n k a j hn hk ha hj =
    let e = ap (λ (f : ℕ → ℕ → Bool). f a j) (heard_set ρ s n k hn hk l) in
    rw (lt-ltb a ρ.nodes ha, lt-ltb j 1024 hj) at e

-- ---- what is in form writes back

pub plain_bytes : (s : List ℕ) (k : ℕ) → T (plain_msg s k) → window 40 k s ≡ bytes_of (stored (meaning (msg_at s k)))
unfolding plain_msg
plain_bytes s k t = eqs_means (window 40 k s) (bytes_of (stored (meaning (msg_at s k)))) t

pub cell_bytes : (s : List ℕ) (k : ℕ) → T (plain_cell s k) → window 36 k s ≡ encode (stored_cell (meaning_cell (cell_at s k)))
unfolding plain_cell
cell_bytes s k t = eqs_means (window 36 k s) (encode (stored_cell (meaning_cell (cell_at s k)))) t

pub msg_writes_back : MsgWritesBack
msg_writes_back s k t =
    let e = plain_bytes s k t in
    record { bytes = sym e; area = ap (λ (w : List ℕ). patch s (40 * k) w) (sym e) ∙ patch-own s (40 * k) 40 }

pub cell_writes_back : CellWritesBack
cell_writes_back s k t =
    let e = cell_bytes s k t in
    record { bytes = sym e; area = ap (λ (w : List ℕ). patch s (36 * k) w) (sym e) ∙ patch-own s (36 * k) 36 }

-- ---- pairs: those counted, and zeros

length_flat : (l : List Pair) → length (flatten l) ≡ 2 * length l
length_flat [] = refl
length_flat (p ∷ l) = omega (arith, length_flat l)

fit-rest : (n : ℕ) (l : List ℕ) → drop (length l) (fit n l) ≡ fit (n - length l) []
fit-rest n [] = rw sub-zero
fit-rest zero (x ∷ l) = rw zero-sub
fit-rest (suc n) (x ∷ l) = rw suc-sub-suc (fit-rest n l)

stored_unused : (l : List Pair) → Unused (length l) (fit 32 (flatten l))
stored_unused l = rw (length_flat l) at (fit-rest 32 (flatten l))

pub length_pairs : (n : ℕ) (s : List ℕ) → length (pairs_of n s) ≡ n
length_pairs zero s = refl
length_pairs (suc n) s = ap suc (length_pairs n (drop 2 s))

flat_back : (n w : ℕ) (s : List ℕ) → length s ≡ w → drop (2 * n) s ≡ fit (w - 2 * n) [] → fit w (flatten (pairs_of n s)) ≡ s
flat_back zero w s l e = sym (rw sub-zero at e)
flat_back (suc n) zero [] l e = refl
flat_back (suc n) zero (x ∷ s) l e = absurd (omega arith)
flat_back (suc n) (suc w) [] l e = absurd (omega arith)
flat_back (suc n) (suc zero) (x ∷ []) l e = refl
flat_back (suc n) (suc zero) (x ∷ y ∷ s) l e = absurd (omega arith)
flat_back (suc n) (suc (suc w)) (x ∷ []) l e = absurd (omega arith)
flat_back (suc n) (suc (suc w)) (x ∷ y ∷ s) l e =
    let two : 2 * suc n ≡ suc (suc (2 * n)) = omega arith in
    let less : suc (suc w) - suc (suc (2 * n)) ≡ w - 2 * n = omega arith in
    ap (λ (t : List ℕ). x ∷ y ∷ t) (flat_back n w s (omega arith) (rw (two, less) at e))

pub height_back : (b : ℕ) → height_byte (height_of b) ≡ b
height_back b = go (eqb b 255) refl
  where
    go : (x : Bool) → eqb b 255 ≡ x → height_byte (pick x 0 (suc b)) ≡ b
    go true e = sym (eqb-true b 255 e)
    go false e = refl

-- ---- the form of a message

-- x with the kind k
abbrev kinded : ℕ → Message → Message
kinded k x = record { kind = k; row = x.row; bal = x.bal; node = x.node; tube = x.tube; mbal = x.mbal; mval = x.mval; count = x.count; pairs = x.pairs }

-- no kind is above 5
past_five : (k : ℕ) → T (leb 1 (suc (suc (suc (suc (suc (suc k)))))) && leb (suc (suc (suc (suc (suc (suc k)))))) 5) → ⊥
past_five k h = let n = suc (suc (suc (suc (suc (suc k))))) in omega (arith, leb→le n 5 (and_r (leb 1 n) (leb n 5) h))

stored_plain : (x : Msg) → Plain (stored x)
unfolding stored
stored_plain (m1a r b) = record { kind = tt; node = λ t. refl; tube = λ t. refl; mbal = λ t. refl; mval = λ t. refl; count = λ t. refl; pairs = refl }
stored_plain (m1b r b n x y l) = record { kind = tt; node = λ t. absurd t; tube = λ t. refl; mbal = λ t. absurd t; mval = λ t. absurd t; count = λ t. absurd t; pairs = stored_unused l }
stored_plain (m1c r b v) = record { kind = tt; node = λ t. refl; tube = λ t. absurd t; mbal = λ t. refl; mval = λ t. refl; count = λ t. refl; pairs = refl }
stored_plain (m2av r b n v) = record { kind = tt; node = λ t. absurd t; tube = λ t. absurd t; mbal = λ t. refl; mval = λ t. refl; count = λ t. refl; pairs = refl }
stored_plain (m2b r b n v) = record { kind = tt; node = λ t. absurd t; tube = λ t. absurd t; mbal = λ t. refl; mval = λ t. refl; count = λ t. refl; pairs = refl }

-- every kind but the 1b
no_1b : (k n v : ℕ) (x : Message) → x.node ≡ n → x.tube ≡ v → x.mbal ≡ 0 → x.mval ≡ 0 → x.count ≡ 0 → Unused x.count x.pairs → line k x.row x.bal n v 0 0 [] ≡ kinded k x
no_1b k n v x a b c d e u =
    let p : x.pairs ≡ fit 32 [] = subst (λ (z : ℕ). Unused z x.pairs) e u in
    sym (λ i. record { kind = k; row = x.row; bal = x.bal; node = a i; tube = b i; mbal = c i; mval = d i; count = e i; pairs = p i })

plain_stored : (k : ℕ) (x : Message) → length x.pairs ≡ 32 → Plain (kinded k x) → stored (meaning (kinded k x)) ≡ kinded k x
unfolding stored meaning
plain_stored zero x l p = absurd p.kind
plain_stored (suc zero) x l p = no_1b 1 0 0 x (p.node tt) (p.tube tt) (p.mbal tt) (p.mval tt) (p.count tt) p.pairs
plain_stored (suc (suc zero)) x l p = λ i. record {
  kind = 2;
  row = x.row;
  bal = x.bal;
  node = x.node;
  tube = sym (p.tube tt) i;
  mbal = height_back x.mbal i;
  mval = x.mval;
  count = length_pairs x.count x.pairs i;
  pairs = flat_back x.count 32 x.pairs l p.pairs i;
}
plain_stored (suc (suc (suc zero))) x l p = no_1b 3 0 x.tube x (p.node tt) refl (p.mbal tt) (p.mval tt) (p.count tt) p.pairs
plain_stored (suc (suc (suc (suc zero)))) x l p = no_1b 4 x.node x.tube x refl refl (p.mbal tt) (p.mval tt) (p.count tt) p.pairs
plain_stored (suc (suc (suc (suc (suc zero))))) x l p = no_1b 5 x.node x.tube x refl refl (p.mbal tt) (p.mval tt) (p.count tt) p.pairs
plain_stored (suc (suc (suc (suc (suc (suc k)))))) x l p = absurd (past_five k p.kind)

bytes_back : (w : List ℕ) → length w ≡ 40 → bytes_of (msg_of w) ≡ w
bytes_back w l =
    let r : length (drop 8 w) ≤ 32 = simp length-drop (omega arith) in
    rw (take_all 32 (drop 8 w) r, ← drop-cons w 7 0 (omega arith), ← drop-cons w 6 0 (omega arith), ← drop-cons w 5 0 (omega arith), ← drop-cons w 4 0 (omega arith), ← drop-cons w 3 0 (omega arith), ← drop-cons w 2 0 (omega arith), ← drop-cons w 1 0 (omega arith), ← drop-cons w 0 0 (omega arith))

cell_whole : (w : List ℕ) → length w ≡ 36 → encode (cell_of w) ≡ w
cell_whole w l =
    let r : length (drop 4 w) ≤ 32 = simp length-drop (omega arith) in
    rw (take_all 32 (drop 4 w) r, ← drop-cons w 3 0 (omega arith), ← drop-cons w 2 0 (omega arith), ← drop-cons w 1 0 (omega arith), ← drop-cons w 0 0 (omega arith))

-- a plain message's struct is that of what it means
pub msg_own : (s : List ℕ) (k : ℕ) → T (plain_msg s k) → msg_at s k ≡ stored (meaning (msg_at s k))
unfolding msg_at
msg_own s k t = let x = stored (meaning (msg_at s k)) in ap msg_of (plain_bytes s k t) ∙ rw (take_all 32 x.pairs (omega (arith, msg_long (meaning (msg_at s k)))))

pub cell-own : (s : List ℕ) (k : ℕ) → T (plain_cell s k) → cell_at s k ≡ stored_cell (meaning_cell (cell_at s k))
cell-own s k t = let c = meaning_cell (cell_at s k) in ap cell_of (cell_bytes s k t) ∙ rw (take_all 32 (stored_cell c).pairs (omega (arith, length-fit 32 (flatten c.pairs))))

pub msg_form : MsgForm
unfolding plain_msg msg_at
msg_form s k = (λ t. (inside t, subst Plain (sym (msg_own s k t)) (stored_plain (meaning (msg_at s k)))), λ z. back z.0 z.1)
  where
    inside : T (plain_msg s k) → 40 * k + 40 ≤ length s
    inside t = window_in 40 k s (omega arith) (ap length (plain_bytes s k t) ∙ long_bytes (meaning (msg_at s k)))

    back : 40 * k + 40 ≤ length s → Plain (msg_at s k) → T (plain_msg s k)
    back h p =
        let x = msg_at s k in
        let l : length x.pairs ≡ 32 = simp (length-take, length-drop) (omega arith) in
        subst (λ (w : List ℕ). T (eqs (window 40 k s) w))
        (sym (ap bytes_of (plain_stored x.kind x l p) ∙ bytes_back (window 40 k s) (length-window 40 k s h)))
        (eqs_same (window 40 k s))

pub cell_in_form : CellForm
unfolding plain_cell
cell_in_form s k = (λ t. (inside t, subst (λ (c : cell_as_stored.Cell). Unused c.count c.pairs) (sym (cell-own s k t)) (stored_unused (meaning_cell (cell_at s k)).pairs)), λ z. back z.0 z.1)
  where
    inside : T (plain_cell s k) → 36 * k + 36 ≤ length s
    inside t = window_in 36 k s (omega arith) (ap length (cell_bytes s k t) ∙ long-cell (meaning_cell (cell_at s k)))

    own : (c : cell_as_stored.Cell) → length c.pairs ≡ 32 → Unused c.count c.pairs → stored_cell (meaning_cell c) ≡ c
    own c l u = λ i. record {
      maxbal = height_back c.maxbal i;
      maxvbal = height_back c.maxvbal i;
      maxvval = c.maxvval;
      count = length_pairs c.count c.pairs i;
      pairs = flat_back c.count 32 c.pairs l u i;
    }

    back : 36 * k + 36 ≤ length s → Unused (cell_at s k).count (cell_at s k).pairs → T (plain_cell s k)
    back h u =
        let c = cell_at s k in
        let l : length c.pairs ≡ 32 = simp (length-take, length-drop) (omega arith) in
        subst (λ (w : List ℕ). T (eqs (window 36 k s) w))
        (sym (ap encode (own c l u) ∙ cell_whole (window 36 k s) (length-window 36 k s h)))
        (eqs_same (window 36 k s))

-- ---- the limits of a message

or_true : (b : Bool) → b || true ≡ true
or_true true = refl
or_true false = refl

-- a height is that of a ballot or of none
height_in : (b : ℕ) → leb (height_of b) 16 ≡ bal_in b || eqb b 255
height_in b = go (eqb b 255)
  where
    go : (x : Bool) → leb (pick x 0 (suc b)) 16 ≡ leb b 15 || x
    go true = sym (or_true (leb b 15))
    go false = leb-suc-suc b 15 ∙ sym (or_no (leb b 15))

-- every kind but the 1b
no_1b_within : (k : ℕ) (ρ : Room) (x : Message) → T (not (eqb k 2)) → T (row_in ρ x.row && bal_in x.bal)
    → (T (not (eqb k 1 || eqb k 3)) → T (ltb x.node ρ.nodes)) → (T (not (eqb k 1 || eqb k 2)) → T (tube_in x.tube)) → Within ρ (kinded k x)
no_1b_within k ρ x h t n v = record {
  row = and_l (row_in ρ x.row) (bal_in x.bal) t;
  bal = and_r (row_in ρ x.row) (bal_in x.bal) t;
  node = n;
  tube = v;
  mbal = λ u. absurd (T_not (eqb k 2) h u);
  mval = λ u. absurd (T_not (eqb k 2) h u);
  count = λ u. absurd (T_not (eqb k 2) h u);
  pairs = λ u. absurd (T_not (eqb k 2) h u);
}

within : (k : ℕ) (ρ : Room) (x : Message) → T (leb 1 k && leb k 5) → T (limits ρ (meaning (kinded k x))) → Within ρ (kinded k x)
unfolding limits meaning
within zero ρ x h t = absurd h
within (suc zero) ρ x h t = no_1b_within 1 ρ x tt t (λ u. absurd u) (λ u. absurd u)
within (suc (suc zero)) ρ x h t =
    let l = pairs_of x.count x.pairs in
    let p : T (pairs_in l) = search (and_l, and_r) depth 7 in
    let c : T (leb (length l) 16) = search (and_l, and_r) depth 7 in
    let b : T (leb (height_of x.mbal) 16) = search (and_l, and_r) depth 7 in
    record {
      row = search (and_l, and_r) depth 7;
      bal = search (and_l, and_r) depth 7;
      node = λ u. search (and_l, and_r) depth 7;
      tube = λ u. absurd u;
      mbal = λ u. rw (height_in x.mbal) at b;
      mval = λ u. search (and_l, and_r) depth 7;
      count = λ u. rw (length_pairs x.count x.pairs) at c;
      pairs = λ u. p;
    }
within (suc (suc (suc zero))) ρ x h t = no_1b_within 3 ρ x tt (search (and_l, and_r) depth 7) (λ u. absurd u) (λ u. search (and_l, and_r) depth 7)
within (suc (suc (suc (suc zero)))) ρ x h t = no_1b_within 4 ρ x tt (search (and_l, and_r) depth 7) (λ u. search (and_l, and_r) depth 7) (λ u. search (and_l, and_r) depth 7)
within (suc (suc (suc (suc (suc zero))))) ρ x h t = no_1b_within 5 ρ x tt (search (and_l, and_r) depth 7) (λ u. search (and_l, and_r) depth 7) (λ u. search (and_l, and_r) depth 7)
within (suc (suc (suc (suc (suc (suc k)))))) ρ x h t = absurd (past_five k h)

-- a 2av and a 2b alike
at_node : (ρ : Room) (x : Message) → T (row_in ρ x.row) → T (bal_in x.bal) → T (ltb x.node ρ.nodes) → T (tube_in x.tube)
    → T ((row_in ρ x.row && bal_in x.bal) && (ltb x.node ρ.nodes && tube_in x.tube))
at_node ρ x p q r s =
    and_two (row_in ρ x.row && bal_in x.bal) (ltb x.node ρ.nodes && tube_in x.tube)
    (and_two (row_in ρ x.row) (bal_in x.bal) p q)
    (and_two (ltb x.node ρ.nodes) (tube_in x.tube) r s)

limited : (k : ℕ) (ρ : Room) (x : Message) → T (leb 1 k && leb k 5) → Within ρ (kinded k x) → T (limits ρ (meaning (kinded k x)))
unfolding limits meaning
limited zero ρ x h w = absurd h
limited (suc zero) ρ x h w = and_two (row_in ρ x.row) (bal_in x.bal) w.row w.bal
limited (suc (suc zero)) ρ x h w =
    let l = pairs_of x.count x.pairs in
    and_two (row_in ρ x.row && bal_in x.bal) (ltb x.node ρ.nodes && (leb (height_of x.mbal) 16 && (leb x.mval 64 && pairs_in l)))
    (and_two (row_in ρ x.row) (bal_in x.bal) w.row w.bal)
    (and_two (ltb x.node ρ.nodes) (leb (height_of x.mbal) 16 && (leb x.mval 64 && pairs_in l)) (w.node tt)
    (and_two (leb (height_of x.mbal) 16) (leb x.mval 64 && pairs_in l) (subst T (sym (height_in x.mbal)) (w.mbal tt))
    (and_two (leb x.mval 64) (pairs_in l) (w.mval tt) (w.pairs tt))))
limited (suc (suc (suc zero))) ρ x h w =
    and_two (row_in ρ x.row && bal_in x.bal) (tube_in x.tube) (and_two (row_in ρ x.row) (bal_in x.bal) w.row w.bal) (w.tube tt)
limited (suc (suc (suc (suc zero)))) ρ x h w = at_node ρ x w.row w.bal (w.node tt) (w.tube tt)
limited (suc (suc (suc (suc (suc zero))))) ρ x h w = at_node ρ x w.row w.bal (w.node tt) (w.tube tt)
limited (suc (suc (suc (suc (suc (suc k)))))) ρ x h w = absurd (past_five k h)

pub msg_limits : MsgLimits
msg_limits ρ x h = (within x.kind ρ x h, limited x.kind ρ x h)
