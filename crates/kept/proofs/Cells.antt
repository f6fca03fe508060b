-- Pairs that ascend, and what makes a cell and a message good.
use mathlib.Core.Path.{◌≡◌, ◌∙◌}
use mathlib.Core.Bool.{Bool, true, false, ◌&&◌}
use mathlib.Core.Logic.{◌⊎◌, inl, inr, ⊎_elim}
use mathlib.Core.List.{List, [], ◌∷◌, ◌++◌}
use Prim.Native.Nat.{ℕ, suc, ◌<◌, ◌≤◌}
use native.Mathlib.Omega.{arith}
use lib.Dec.{T, eqb, leb, ltb, leb→le, ltb→lt, eqb→eq, eqb_refl, le→leb, lt→ltb}
use lib.ListN.{length, length-append}
use Rattle.rules.specs.Tests.{pick, all}
use Rattle.rules.specs.Words.{bal_in, tube_in, Pair, Msg, m1a, m1c, m2av, m2b, Cell, Room, m1b}
use Rattle.rules.specs.Lent.{below, ascend, pairs_in, limits, scanned, good_msg, good_cell}
use Rattle.rules.specs.Steps.{without}
use Rattle.rules.proofs.Sound.{and_l, and_r, or_cases, or_l, or_r, and_two}
use Rattle.kept.proofs.Lists.{all_last, all_more}

-- ---- pairs that ascend

abbrev Below : Pair → Pair → Type 0
Below p q = (p.1 < q.1) ⊎ ((p.1 ≡ q.1) × (p.0 < q.0))

to_below : (p q : Pair) → T (below p q) → Below p q
to_below p q t = ⊎_elim (λ (u : T (ltb p.1 q.1)). inl (ltb→lt p.1 q.1 u))
    (λ (u : T (eqb p.1 q.1 && ltb p.0 q.0)). inr (eqb→eq p.1 q.1 (and_l (eqb p.1 q.1) (ltb p.0 q.0) u), ltb→lt p.0 q.0 (and_r (eqb p.1 q.1) (ltb p.0 q.0) u)))
    (or_cases (ltb p.1 q.1) (eqb p.1 q.1 && ltb p.0 q.0) t)

of_below : (p q : Pair) → Below p q → T (below p q)
of_below p q (inl h) = or_l (ltb p.1 q.1) (eqb p.1 q.1 && ltb p.0 q.0) (lt→ltb p.1 q.1 h)
of_below p q (inr h) = or_r (ltb p.1 q.1) (eqb p.1 q.1 && ltb p.0 q.0) (and_two (eqb p.1 q.1) (ltb p.0 q.0) (rw h.0 (eqb_refl q.1)) (lt→ltb p.0 q.0 h.1))

trans : (p q r : Pair) → Below p q → Below q r → Below p r
trans p q r (inl a) (inl b) = inl (omega arith)
trans p q r (inl a) (inr b) = inl (omega (arith, b.0))
trans p q r (inr a) (inl b) = inl (omega (arith, a.0))
trans p q r (inr a) (inr b) = inr (a.0 ∙ b.0, omega (arith, a.1, b.1))

-- the first is below all the others
first_below : (p : Pair) (l : List Pair) → T (ascend (p ∷ l)) → T (all (below p) l)
first_below p [] t = tt
first_below p (q ∷ l) t =
    let h = and_l (below p q) (ascend (q ∷ l)) t in
    and_two (below p q) (all (below p) l) h
    (all_more (below q) (below p) l (λ r u. of_below p r (trans p q r (to_below p q h) (to_below q r u))) (first_below q l (and_r (below p q) (ascend (q ∷ l)) t)))

tail_ascends : (p : Pair) (l : List Pair) → T (ascend (p ∷ l)) → T (ascend l)
tail_ascends p [] t = tt
tail_ascends p (q ∷ l) t = and_r (below p q) (ascend (q ∷ l)) t

cons_ascends : (p : Pair) (l : List Pair) → T (all (below p) l) → T (ascend l) → T (ascend (p ∷ l))
cons_ascends p [] s t = tt
cons_ascends p (q ∷ l) s t = and_two (below p q) (ascend (q ∷ l)) (and_l (below p q) (all (below p) l) s) t

pub all_without : (f : Pair → Bool) (v : ℕ) (l : List Pair) → T (all f l) → T (all f (without v l))
all_without f v [] t = tt
all_without f v (p ∷ l) t = go (eqb p.0 v) (all_without f v l (and_r (f p) (all f l) t))
  where
    go : (b : Bool) → T (all f (without v l)) → T (all f (pick b (without v l) (p ∷ without v l)))
    go true u = u
    go false u = and_two (f p) (all f (without v l)) (and_l (f p) (all f l) t) u

without_ascends : (v : ℕ) (l : List Pair) → T (ascend l) → T (ascend (without v l))
without_ascends v [] t = tt
without_ascends v (p ∷ l) t = go (eqb p.0 v) (without_ascends v l (tail_ascends p l t))
  where
    go : (b : Bool) → T (ascend (without v l)) → T (ascend (pick b (without v l) (p ∷ without v l)))
    go true u = u
    go false u = cons_ascends p (without v l) (all_without (below p) v l (first_below p l t)) u

last_ascends : (v b : ℕ) (l : List Pair) → T (ascend l) → T (all (λ (p : Pair). ltb p.1 b) l) → T (ascend (l ++ ((v, b) ∷ [])))
last_ascends v b [] t s = tt
last_ascends v b (p ∷ l) t s =
    cons_ascends p (l ++ ((v, b) ∷ []))
    (all_last (below p) l (v, b) (first_below p l t) (of_below p (v, b) (inl (ltb→lt p.1 b (and_l (ltb p.1 b) (all (λ (p : Pair). ltb p.1 b) l) s)))))
    (last_ascends v b l (tail_ascends p l t) (and_r (ltb p.1 b) (all (λ (p : Pair). ltb p.1 b) l) s))

-- ---- a good cell's parts

-- what a good cell is for the codec
pub record Fine (c : Cell) : Type 0 where
  pub bal : c.max_bal ≤ 16
  pub vbal : c.max_vbal ≤ 16
  pub pairs : length c.pairs ≤ 16

pub fine : (h : ℕ) (c : Cell) → T (good_cell h c) → Fine c
unfolding good_cell
fine h c t = record { bal = search (leb→le, and_l, and_r) depth 9; vbal = search (leb→le, and_l, and_r) depth 9; pairs = search (leb→le, and_l, and_r) depth 9 }

abbrev In : Pair → Bool
In p = tube_in p.0 && bal_in p.1

abbrev pub On : ℕ → Pair → Bool
On k p = leb p.0 k

pub record CellOk (k : ℕ) (c : Cell) : Type 0 where
  pub bal : T (leb c.max_bal 16)
  pub vbal : T (leb c.max_vbal 16)
  pub val : T (leb c.max_vval 64)
  pub tube : T (leb c.max_vval k)
  pub pairs : T (pairs_in c.pairs)
  pub on : T (all (On k) c.pairs)

pub parts : (k : ℕ) (c : Cell) → T (good_cell k c) → CellOk k c
unfolding good_cell
parts k c t = record {
  bal = search (and_l, and_r) depth 9;
  vbal = search (and_l, and_r) depth 9;
  val = search (and_l, and_r) depth 9;
  tube = search (and_l, and_r) depth 9;
  pairs = search (and_l, and_r) depth 9;
  on = search (and_l, and_r) depth 9;
}

pub whole : (k : ℕ) (c : Cell) → CellOk k c → T (good_cell k c)
unfolding good_cell
whole k c p = search (and_two, p.bal, p.vbal, p.val, p.tube, p.pairs, p.on) depth 9

pub up : (b : ℕ) → T (bal_in b) → T (leb (suc b) 16)
up b t = let l = leb→le b 15 t in le→leb (suc b) 16 (omega arith)

-- the pairs after a 2av
pub pairs_2av : (v b : ℕ) (l : List Pair) → T (pairs_in l) → T (tube_in v) → T (bal_in b) → T (all (λ (p : Pair). ltb p.1 b) l) → length (without v l) < 16
    → T (pairs_in (without v l ++ ((v, b) ∷ [])))
pairs_2av v b l t hv hb s n =
    let w = without v l in
    let X = leb (length l) 16 && all In l in
    let a = and_r X (ascend l) t in
    let i = and_r (leb (length l) 16) (all In l) (and_l X (ascend l) t) in
    and_two (leb (length (w ++ ((v, b) ∷ []))) 16 && all In (w ++ ((v, b) ∷ []))) (ascend (w ++ ((v, b) ∷ [])))
    (and_two (leb (length (w ++ ((v, b) ∷ []))) 16) (all In (w ++ ((v, b) ∷ []))) (le→leb (length (w ++ ((v, b) ∷ []))) 16 (omega (arith, length-append w ((v, b) ∷ []))))
    (all_last In w (v, b) (all_without In v l i) (and_two (tube_in v) (bal_in b) hv hb)))
    (last_ascends v b w (without_ascends v l a) (all_without (λ (p : Pair). ltb p.1 b) v l s))

-- ---- one tube more on intake

leb_suc : (a k : ℕ) → T (leb a k) → T (leb a (suc k))
leb_suc a k t = let l = leb→le a k t in le→leb a (suc k) (omega arith)

scanned_suc : (k : ℕ) (x : Msg) → T (scanned k x) → T (scanned (suc k) x)
unfolding scanned
scanned_suc k (m1a r b) t = t
scanned_suc k (m1b r b n x y l) t = and_two (leb y (suc k)) (all (On (suc k)) l) (leb_suc y k (and_l (leb y k) (all (On k) l) t))
    (all_more (On k) (On (suc k)) l (λ p u. leb_suc p.0 k u) (and_r (leb y k) (all (On k) l) t))
scanned_suc k (m1c r b v) t = leb_suc v k t
scanned_suc k (m2av r b n v) t = leb_suc v k t
scanned_suc k (m2b r b n v) t = leb_suc v k t

pub good_suc : (ρ : Room) (k : ℕ) (x : Msg) → T (good_msg ρ k x) → T (good_msg ρ (suc k) x)
unfolding good_msg
good_suc ρ k x t = and_two (limits ρ x) (scanned (suc k) x) (and_l (limits ρ x) (scanned k x) t) (scanned_suc k x (and_r (limits ρ x) (scanned k x) t))

pub cell_suc : (k : ℕ) (c : Cell) → T (good_cell k c) → T (good_cell (suc k) c)
cell_suc k c t =
    let p = parts k c t in
    whole (suc k) c (record { bal = p.bal; vbal = p.vbal; val = p.val; tube = leb_suc c.max_vval k p.tube; pairs = p.pairs; on = all_more (On k) (On (suc k)) c.pairs (λ q u. leb_suc q.0 k u) p.on })
