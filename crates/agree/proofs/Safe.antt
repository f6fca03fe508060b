-- Agreement in one row: the invariant of the nodes that keep the rules, and what follows from it.
use mathlib.Core.Path.{◌≡◌, refl, sym, ap, ◌∙◌, subst}
use mathlib.Core.Logic.{◌⊎◌, inl, inr}
use mathlib.Core.Option.{Option, some, none}
use mathlib.Core.List.Memᴰ
use mathlib.Core.List.{List, [], Memᴰ}
use Prim.Native.Nat.{ℕ, suc, ◌≤◌, ◌<◌}
use native.Mathlib.Decide.{dec_lt, ℕ_discrete}
use native.Mathlib.Omega.{arith}
use Rattle.rules.specs.Words.{Pair, Msg, m1a, m1b, m1c, m2av, m2b, kind_of, Cell}

-- all that was ever sent, and the cells of one row now
pub record View : Type 0 where
  pub board : List Msg
  pub cell : ℕ → Cell

abbrev pub On : Msg → View → Type 0
On m s = Memᴰ m s.board

abbrev pub row_of : Msg → ℕ
row_of (m1a r b) = r
row_of (m1b r b n x y ps) = r
row_of (m1c r b v) = r
row_of (m2av r b n v) = r
row_of (m2b r b n v) = r

-- the node that stands on it
abbrev pub node_of : Msg → Option ℕ
node_of (m1a r b) = none
node_of (m1b r b n x y ps) = some n
node_of (m1c r b v) = none
node_of (m2av r b n v) = some n
node_of (m2b r b n v) = some n

-- what known safe asks of a 1b's mbal (none: 0), mval and pairs
abbrev pub Empty : ℕ → ℕ → List Pair → Type 0
Empty x y ps = x ≡ 0

abbrev pub Low : ℕ → ℕ → ℕ → ℕ → List Pair → Type 0
Low c v x y ps = (x ≤ suc c) × (x ≡ suc c → y ≡ v)

abbrev pub Shown : ℕ → ℕ → ℕ → ℕ → List Pair → Type 0
Shown c v x y ps = (k : ℕ) × Memᴰ (v, k) ps × (c ≤ k)

-- the nodes that keep the rules, and the listed sets with their nodes
pub record Sets : Type 1 where
  pub Good : ℕ → Type 0
  pub In : ℕ → ℕ → Type 0
  pub Quorum : ℕ → Type 0
  pub Weak : ℕ → Type 0

-- two quorums share a good node, a weak set has one
pub record Fit (σ : Sets) : Type 0 where
  pub overlap : (p q : ℕ) → σ.Quorum p → σ.Quorum q → (a : ℕ) × σ.In a p × σ.In a q × σ.Good a
  pub honest : (w : ℕ) → σ.Weak w → (a : ℕ) × σ.In a w × σ.Good a

module _ (r : ℕ) (σ : Sets) where
  abbrev pub Votes : View → ℕ → ℕ → ℕ → Type 0
  Votes s a c w = On (m2b r c a w) s

  abbrev pub Relays : View → ℕ → ℕ → ℕ → Type 0
  Relays s a c w = On (m2av r c a w) s

  -- the node a is past the ballot c and, if it voted there, voted v
  pub record Settled (s : View) (c v a : ℕ) : Type 0 where
    pub past : suc c < (s.cell a).max_bal
    pub only : (w : ℕ) → Votes s a c w → w ≡ v

  pub record SafeBy (s : View) (c v : ℕ) : Type 0 where
    pub set : ℕ
    pub listed : σ.Quorum set
    pub all : (a : ℕ) → σ.In a set → σ.Good a → Settled s c v a

  abbrev pub SafeAt : View → ℕ → ℕ → Type 0
  SafeAt s b v = (c : ℕ) → c < b → SafeBy s c v

  pub record Backed (s : View) (c v : ℕ) : Type 0 where
    pub set : ℕ
    pub listed : σ.Quorum set
    pub all : (a : ℕ) → σ.In a set → Relays s a c v

  pub record Chosen (s : View) (v : ℕ) : Type 0 where
    pub bal : ℕ
    pub set : ℕ
    pub listed : σ.Quorum set
    pub all : (a : ℕ) → σ.In a set → Votes s a bal v

  -- ---- known safe

  -- a 1b of the node a in the ballot b of whose mbal, mval and pairs P holds
  pub record Tells (s : View) (b a : ℕ) (P : ℕ → ℕ → List Pair → Type 0) : Type 0 where
    pub mbal : ℕ
    pub mval : ℕ
    pub ps : List Pair
    pub on : On (m1b r b a mbal mval ps) s
    pub holds : P mbal mval ps

  pub data Known (s : View) (b v : ℕ) : Type 0 where
    unvoted : (q : ℕ) → σ.Quorum q → ((a : ℕ) → σ.In a q → Tells s b a Empty) → Known s b v
    after : (c : ℕ) → c < b → (q : ℕ) → σ.Quorum q → ((a : ℕ) → σ.In a q → Tells s b a (Low c v))
        → (w : ℕ) → σ.Weak w → ((a : ℕ) → σ.In a w → Tells s b a (Shown c v)) → Known s b v

  -- ---- the invariant

  pub record VoteTrue (c : Cell) (b v : ℕ) : Type 0 where
    pub below : suc b ≤ c.max_bal
    pub highest : suc b ≤ c.max_vbal
    pub value : suc b ≡ c.max_vbal → v ≡ c.max_vval

  pub record TellTrue (s : View) (a : ℕ) (c : Cell) (b mbal mval : ℕ) (ps : List Pair) : Type 0 where
    pub below : suc b ≤ c.max_bal
    pub highest : (k w : ℕ) → Votes s a k w → k < b → suc k ≤ mbal
    pub value : (k w : ℕ) → Votes s a k w → k < b → suc k ≡ mbal → w ≡ mval
    pub relayed : (k w : ℕ) → Memᴰ (w, k) ps → Relays s a k w

  pub record Node (s : View) (a : ℕ) (c : Cell) : Type 0 where
    pub votes : (b v : ℕ) → Votes s a b v → VoteTrue c b v
    pub backed : (b v : ℕ) → Votes s a b v → Backed s b v
    pub tells : (b mbal mval : ℕ) (ps : List Pair) → On (m1b r b a mbal mval ps) s → TellTrue s a c b mbal mval ps
    pub relayed : (b v : ℕ) → Memᴰ (v, b) c.pairs → Relays s a b v
    pub covered : (b v : ℕ) → Relays s a b v → (k : ℕ) × Memᴰ (v, k) c.pairs × (b ≤ k)
    pub once : (b v w : ℕ) → Relays s a b v → Relays s a b w → v ≡ w
    pub safe : (b v : ℕ) → Relays s a b v → SafeAt s b v

  abbrev pub Inv : View → Type 0
  Inv s = (a : ℕ) → σ.Good a → Node s a (s.cell a)

  -- ---- what every step keeps

  pub record Later (s t : View) : Type 0 where
    pub keep : (x : Msg) → row_of x ≡ r → On x s → On x t
    pub grow : (a : ℕ) → σ.Good a → (s.cell a).max_bal ≤ (t.cell a).max_bal
    pub late : (a c w : ℕ) → σ.Good a → Votes t a c w → Votes s a c w ⊎ ((s.cell a).max_bal ≤ suc c)

  settled-later : {s t : View} {c v a : ℕ} → Later s t → σ.Good a → Settled s c v a → Settled t c v a
  settled-later {s} {t} {c} {v} {a} l g h = record {
    past = omega (arith, l.grow a g, h.past);
    only = λ w o. pick w (l.late a c w g o);
  }
    where
      pick : (w : ℕ) → Votes s a c w ⊎ ((s.cell a).max_bal ≤ suc c) → w ≡ v
      pick w (inl o) = h.only w o
      pick w (inr q) = absurd (omega (arith, q, h.past))

  pub safe_later : {s t : View} {b v : ℕ} → Later s t → SafeAt s b v → SafeAt t b v
  safe_later l h c lt = let k = h c lt in record
      { set = k.set; listed = k.listed; all = λ a i g. settled-later l g (k.all a i g) }

  pub backed_later : {s t : View} {b v : ℕ} → Later s t → Backed s b v → Backed t b v
  backed_later {b = b} {v = v} l k = record
      { set = k.set; listed = k.listed; all = λ a i. l.keep (m2av r b a v) refl (k.all a i) }

  -- ---- the steps

  -- the node n adds the message m and its cell becomes c
  pub record Sends (s t : View) (n : ℕ) (m : Msg) (c : Cell) : Type 0 where
    pub keep : (x : Msg) → row_of x ≡ r → On x s → On x t
    pub fresh : (x : Msg) → row_of x ≡ r → On x t → On x s ⊎ (x ≡ m)
    pub new : On m t
    pub now : t.cell n ≡ c
    pub others : (a : ℕ) → ¬ (a ≡ n) → t.cell a ≡ s.cell a

  pub data Step (s t : View) : Type 0 where
    noise : ((x : Msg) → row_of x ≡ r → On x s → On x t) → ((a : ℕ) → σ.Good a → t.cell a ≡ s.cell a)
        → ((a : ℕ) (x : Msg) → σ.Good a → row_of x ≡ r → node_of x ≡ some a → On x t → On x s) → Step s t
    do1b : (n b : ℕ) → (s.cell n).max_bal ≤ b
        → Sends s t n (m1b r b n (s.cell n).max_vbal (s.cell n).max_vval (s.cell n).pairs)
        (record { max_bal = suc b; max_vbal = (s.cell n).max_vbal; max_vval = (s.cell n).max_vval; pairs = (s.cell n).pairs })
        → Step s t
    do2av : (n b v : ℕ) (ps : List Pair) → (s.cell n).max_bal ≤ suc b → ((w k : ℕ) → Memᴰ (w, k) (s.cell n).pairs → k < b)
        → Known s b v → ((p : Pair) → Memᴰ p ps → Memᴰ p (s.cell n).pairs ⊎ (p ≡ (v, b))) → Memᴰ (v, b) ps
        → ((w k : ℕ) → ¬ (w ≡ v) → Memᴰ (w, k) (s.cell n).pairs → Memᴰ (w, k) ps)
        → Sends s t n (m2av r b n v) (record { max_bal = suc b; max_vbal = (s.cell n).max_vbal; max_vval = (s.cell n).max_vval; pairs = ps })
        → Step s t
    do2b : (n b v : ℕ) → (s.cell n).max_bal ≤ suc b → Backed s b v
        → Sends s t n (m2b r b n v) (record { max_bal = suc b; max_vbal = suc b; max_vval = v; pairs = (s.cell n).pairs })
        → Step s t

  module _ (fit : Fit σ) where
    -- ---- known safe is safe

    low-settled : (s : View) (b c v k a : ℕ) → Node s a (s.cell a) → Tells s b a (Low c v) → k < b → c ≤ k → Settled s k v a
    low-settled s b c v k a n h lt le =
        let t = n.tells b h.mbal h.mval h.ps h.on in record {
          past = omega (arith, t.below);
          only = λ w o.
              let e : suc k ≡ h.mbal = omega (arith, t.highest k w o lt, h.holds.0) in
              t.value k w o lt e ∙ h.holds.1 (omega (arith, h.holds.0));
        }

    pub known_safe : (s : View) (b v : ℕ) → Inv s → Known s b v → SafeAt s b v
    known_safe s b v i (unvoted q l f) c lt = record {
      set = q;
      listed = l;
      all = λ a m g. let h = f a m in let t = (i a g).tells b h.mbal h.mval h.ps h.on in record {
        past = omega (arith, t.below);
        only = λ w o. absurd (omega (arith, t.highest c w o lt, h.holds));
      };
    }
    known_safe s b v i (after c lc q l f w m g) k lt = go (dec_lt k c)
      where
        go : Dec (k < c) → SafeBy s k v
        go (no h) = record {
          set = q;
          listed = l;
          all = λ a j ga. low-settled s b c v k a (i a ga) (f a j) lt (omega arith);
        }
        go (yes h) =
            let a = fit.honest w m in
            let x = g a.0 a.1 in
            let n = i a.0 a.2 in
            let p = x.holds in
            n.safe p.0 v ((n.tells b x.mbal x.mval x.ps x.on).relayed p.0 v p.1) k (omega (arith, p.2))

    -- ---- agreement

    pub backed_same : (s : View) (b v w : ℕ) → Inv s → Backed s b v → Backed s b w → v ≡ w
    backed_same s b v w i x y =
        let a = fit.overlap x.set y.set x.listed y.listed in
        (i a.0 a.3).once b v w (x.all a.0 a.1) (y.all a.0 a.2)

    pub backed_safe : (s : View) (b v : ℕ) → Inv s → Backed s b v → SafeAt s b v
    backed_safe s b v i x =
        let a = fit.overlap x.set x.set x.listed x.listed in
        (i a.0 a.3).safe b v (x.all a.0 a.1)

    chosen_backed : (s : View) (v : ℕ) → Inv s → (x : Chosen s v) → Backed s x.bal v
    chosen_backed s v i x =
        let a = fit.overlap x.set x.set x.listed x.listed in
        (i a.0 a.3).backed x.bal v (x.all a.0 a.1)

    earlier : (s : View) (v w : ℕ) → Inv s → (x : Chosen s v) (y : Chosen s w) → x.bal < y.bal → v ≡ w
    earlier s v w i x y lt =
        let k = backed_safe s y.bal w i (chosen_backed s w i y) x.bal lt in
        let a = fit.overlap x.set k.set x.listed k.listed in
        (k.all a.0 a.2 a.3).only v (x.all a.0 a.1)

    pub one-chosen : (s : View) (v w : ℕ) → Inv s → Chosen s v → Chosen s w → v ≡ w
    one-chosen s v w i x y = go (dec_lt x.bal y.bal) (dec_lt y.bal x.bal)
      where
        go : Dec (x.bal < y.bal) → Dec (y.bal < x.bal) → v ≡ w
        go (yes h) d = earlier s v w i x y h
        go (no h) (yes k) = sym (earlier s w v i y x k)
        go (no h) (no k) =
            let e : x.bal ≡ y.bal = omega arith in
            backed_same s x.bal v w i (chosen_backed s v i x) (rw e (chosen_backed s w i y))

    -- ---- the steps keep the invariant

    old : {s t : View} {n : ℕ} {m : Msg} {c : Cell} → Sends s t n m c → (x : Msg) → row_of x ≡ r → ¬ (kind_of x ≡ kind_of m) → On x t → On x s
    old {s} {m = m} d x e h o = go (d.fresh x e o)
      where
        go : On x s ⊎ (x ≡ m) → On x s
        go (inl p) = p
        go (inr q) = absurd (h (ap kind_of q))

    -- what is not n's is as before
    others_old : {s t : View} {n : ℕ} {m : Msg} {c : Cell} → Sends s t n m c → node_of m ≡ some n → (a : ℕ) → ¬ (a ≡ n)
        → (x : Msg) → row_of x ≡ r → node_of x ≡ some a → On x t → On x s
    others_old {s} {n = n} {m = m} d e a h x l q o = go (d.fresh x l o)
      where
        go : On x s ⊎ (x ≡ m) → On x s
        go (inl p) = p
        go (inr p) = let z : a ≡ n = cc (ap node_of p) in absurd (h z)

    sends_later : {s t : View} {n : ℕ} {m : Msg} {c : Cell} → Sends s t n m c → (s.cell n).max_bal ≤ c.max_bal
        → ((a k w : ℕ) → m2b r k a w ≡ m → (s.cell a).max_bal ≤ suc k) → Later s t
    sends_later {s} {t} {n} {m} {c} d le h = record { keep = d.keep; grow = λ a g. up a (ℕ_discrete a n); late = λ a k w g o. go a k w (d.fresh (m2b r k a w) refl o) }
      where
        up : (a : ℕ) → Dec (a ≡ n) → (s.cell a).max_bal ≤ (t.cell a).max_bal
        up a (yes e) = rw (e, d.now) le
        up a (no e) = rw (d.others a e) (omega arith)

        go : (a k w : ℕ) → On (m2b r k a w) s ⊎ (m2b r k a w ≡ m) → Votes s a k w ⊎ ((s.cell a).max_bal ≤ suc k)
        go a k w (inl o) = inl o
        go a k w (inr q) = inr (h a k w q)

    -- a node that does nothing
    node_frame : {s t : View} {a : ℕ} {c : Cell} → Later s t → ((x : Msg) → row_of x ≡ r → node_of x ≡ some a → On x t → On x s) → Node s a c → Node t a c
    node_frame {s} {t} {a} {c} l back n = record {
      votes = λ b v o. n.votes b v (back (m2b r b a v) refl refl o);
      backed = λ b v o. backed_later l (n.backed b v (back (m2b r b a v) refl refl o));
      tells = λ b mb mv ps o.
          let h = n.tells b mb mv ps (back (m1b r b a mb mv ps) refl refl o) in record {
            below = h.below;
            highest = λ k w p. h.highest k w (back (m2b r k a w) refl refl p);
            value = λ k w p. h.value k w (back (m2b r k a w) refl refl p);
            relayed = λ k w p. l.keep (m2av r k a w) refl (h.relayed k w p);
          };
      relayed = λ b v p. l.keep (m2av r b a v) refl (n.relayed b v p);
      covered = λ b v o. n.covered b v (back (m2av r b a v) refl refl o);
      once = λ b v w o p. n.once b v w (back (m2av r b a v) refl refl o) (back (m2av r b a w) refl refl p);
      safe = λ b v o. safe_later l (n.safe b v (back (m2av r b a v) refl refl o));
    }

    node_1b : {s t : View} {n b : ℕ} {x y : ℕ} {ps : List Pair} → Node s n (s.cell n) → (s.cell n).max_bal ≤ b
        → x ≡ (s.cell n).max_vbal → y ≡ (s.cell n).max_vval → ps ≡ (s.cell n).pairs
        → Sends s t n (m1b r b n x y ps) (record { max_bal = suc b; max_vbal = x; max_vval = y; pairs = ps })
        → Later s t → Node t n (record { max_bal = suc b; max_vbal = x; max_vval = y; pairs = ps })
    node_1b {s} {t} {n} {b} {x} {y} {ps} h le ex ey ep d l = record {
      votes = λ k w o. vote k w (back k w o);
      backed = λ k w o. backed_later l (h.backed k w (back k w o));
      tells = λ k mb mv qs o. tell k mb mv qs (d.fresh (m1b r k n mb mv qs) refl o);
      relayed = λ k w p. l.keep (m2av r k n w) refl (h.relayed k w (rw (← ep) p));
      covered = λ k w o. rw ep (h.covered k w (old d (m2av r k n w) refl (omega arith) o));
      once = λ k v w o p. h.once k v w (old d (m2av r k n v) refl (omega arith) o) (old d (m2av r k n w) refl (omega arith) p);
      safe = λ k v o. safe_later l (h.safe k v (old d (m2av r k n v) refl (omega arith) o));
    }
      where
        back : (k w : ℕ) → Votes t n k w → Votes s n k w
        back k w o = old d (m2b r k n w) refl (omega arith) o

        vote : (k w : ℕ) → Votes s n k w → VoteTrue (record { max_bal = suc b; max_vbal = x; max_vval = y; pairs = ps }) k w
        vote k w o = let z = h.votes k w o in record
            { below = omega (arith, z.below); highest = rw ex z.highest; value = λ e. z.value (e ∙ ex) ∙ sym ey }

        tell : (k mb mv : ℕ) (qs : List Pair) → On (m1b r k n mb mv qs) s ⊎ (m1b r k n mb mv qs ≡ m1b r b n x y ps)
            → TellTrue t n (record { max_bal = suc b; max_vbal = x; max_vval = y; pairs = ps }) k mb mv qs
        tell k mb mv qs (inl o) = let z = h.tells k mb mv qs o in record {
          below = omega (arith, z.below);
          highest = λ j w p. z.highest j w (back j w p);
          value = λ j w p. z.value j w (back j w p);
          relayed = λ j w p. l.keep (m2av r j n w) refl (z.relayed j w p);
        }
        tell k mb mv qs (inr e) =
            let ek : k ≡ b = cc in
            let em : mb ≡ x = cc in
            let ev : mv ≡ y = cc in
            let eq : qs ≡ ps = cc in record {
              below = omega arith;
              highest = λ j w p lt. rw em (vote j w (back j w p)).highest;
              value = λ j w p lt q. (vote j w (back j w p)).value (q ∙ em) ∙ sym ev;
              relayed = λ j w p. l.keep (m2av r j n w) refl (h.relayed j w (rw (← ep, ← eq) p));
            }

    node_2av : {s t : View} {n b v : ℕ} {x y : ℕ} {ps : List Pair} → Node s n (s.cell n) → SafeAt s b v → (s.cell n).max_bal ≤ suc b
        → x ≡ (s.cell n).max_vbal → y ≡ (s.cell n).max_vval
        → ((w k : ℕ) → Memᴰ (w, k) (s.cell n).pairs → k < b)
        → ((p : Pair) → Memᴰ p ps → Memᴰ p (s.cell n).pairs ⊎ (p ≡ (v, b))) → Memᴰ (v, b) ps
        → ((w k : ℕ) → ¬ (w ≡ v) → Memᴰ (w, k) (s.cell n).pairs → Memᴰ (w, k) ps)
        → Sends s t n (m2av r b n v) (record { max_bal = suc b; max_vbal = x; max_vval = y; pairs = ps })
        → Later s t → Node t n (record { max_bal = suc b; max_vbal = x; max_vval = y; pairs = ps })
    node_2av {s} {t} {n} {b} {v} {x} {y} {ps} h sf le ex ey lows part has stay d l = record {
      votes = λ k w o. let z = h.votes k w (back k w o) in record
          { below = omega (arith, z.below); highest = rw ex z.highest; value = λ e. z.value (e ∙ ex) ∙ sym ey };
      backed = λ k w o. backed_later l (h.backed k w (back k w o));
      tells = λ k mb mv qs o. let z = h.tells k mb mv qs (old d (m1b r k n mb mv qs) refl (omega arith) o) in record {
        below = omega (arith, z.below);
        highest = λ j w p. z.highest j w (back j w p);
        value = λ j w p. z.value j w (back j w p);
        relayed = λ j w p. l.keep (m2av r j n w) refl (z.relayed j w p);
      };
      relayed = λ k w p. relay k w (part (w, k) p);
      covered = λ k w o. cover k w (av k w o) (ℕ_discrete w v);
      once = λ k u w o p. uniq k u w (av k u o) (av k w p);
      safe = λ k w o. sure k w (av k w o);
    }
      where
        back : (k w : ℕ) → Votes t n k w → Votes s n k w
        back k w o = old d (m2b r k n w) refl (omega arith) o

        av : (k w : ℕ) → Relays t n k w → Relays s n k w ⊎ (m2av r k n w ≡ m2av r b n v)
        av k w o = d.fresh (m2av r k n w) refl o

        relay : (k w : ℕ) → Memᴰ (w, k) (s.cell n).pairs ⊎ (◌≡◌ {A = Pair} (w, k) (v, b)) → Relays t n k w
        relay k w (inl p) = l.keep (m2av r k n w) refl (h.relayed k w p)
        relay k w (inr e) = let ew : w ≡ v = ap (λ (z : Pair). z.0) e in let ek : k ≡ b = ap (λ (z : Pair). z.1) e in rw (ew, ek) d.new

        under : (k w : ℕ) → Relays s n k w → k < b
        under k w o = let z = h.covered k w o in omega (arith, lows w z.0 z.1, z.2)

        cover : (k w : ℕ) → Relays s n k w ⊎ (m2av r k n w ≡ m2av r b n v) → Dec (w ≡ v) → (j : ℕ) × Memᴰ (w, j) ps × (k ≤ j)
        cover k w (inl o) (yes z) = (b, rw z has, omega (arith, under k w o))
        cover k w (inl o) (no z) = let c = h.covered k w o in (c.0, stay w c.0 z c.1, c.2)
        cover k w (inr e) q = let ek : k ≡ b = cc in let ew : w ≡ v = cc in (b, rw ew has, omega arith)

        uniq : (k u w : ℕ) → Relays s n k u ⊎ (m2av r k n u ≡ m2av r b n v) → Relays s n k w ⊎ (m2av r k n w ≡ m2av r b n v) → u ≡ w
        uniq k u w (inl o) (inl p) = h.once k u w o p
        uniq k u w (inl o) (inr e) = let ek : k ≡ b = cc in absurd (omega (arith, under k u o))
        uniq k u w (inr e) (inl o) = let ek : k ≡ b = cc in absurd (omega (arith, under k w o))
        uniq k u w (inr e) (inr f) = cc

        sure : (k w : ℕ) → Relays s n k w ⊎ (m2av r k n w ≡ m2av r b n v) → SafeAt t k w
        sure k w (inl o) = safe_later l (h.safe k w o)
        sure k w (inr e) = let ek : k ≡ b = cc in let ew : w ≡ v = cc in rw (ek, ew) (safe_later l sf)

    node_2b : {s t : View} {n b v : ℕ} {ps : List Pair} → σ.Good n → Inv s → Backed s b v → (s.cell n).max_bal ≤ suc b
        → ps ≡ (s.cell n).pairs
        → Sends s t n (m2b r b n v) (record { max_bal = suc b; max_vbal = suc b; max_vval = v; pairs = ps })
        → Later s t → Node t n (record { max_bal = suc b; max_vbal = suc b; max_vval = v; pairs = ps })
    node_2b {s} {t} {n} {b} {v} {ps} g i bk le ep d l = record {
      votes = λ k w o. vote k w (bb k w o);
      backed = λ k w o. back k w (bb k w o);
      tells = λ k mb mv qs o. let z = h.tells k mb mv qs (old d (m1b r k n mb mv qs) refl (omega arith) o) in record {
        below = omega (arith, z.below);
        highest = λ j w p lt. z.highest j w (was j w (omega (arith, z.below)) (bb j w p)) lt;
        value = λ j w p lt. z.value j w (was j w (omega (arith, z.below)) (bb j w p)) lt;
        relayed = λ j w p. l.keep (m2av r j n w) refl (z.relayed j w p);
      };
      relayed = λ k w p. l.keep (m2av r k n w) refl (h.relayed k w (rw (← ep) p));
      covered = λ k w o. rw ep (h.covered k w (old d (m2av r k n w) refl (omega arith) o));
      once = λ k u w o p. h.once k u w (old d (m2av r k n u) refl (omega arith) o) (old d (m2av r k n w) refl (omega arith) p);
      safe = λ k w o. safe_later l (h.safe k w (old d (m2av r k n w) refl (omega arith) o));
    }
      where
        h : Node s n (s.cell n)
        h = i n g

        bb : (k w : ℕ) → Votes t n k w → Votes s n k w ⊎ (m2b r k n w ≡ m2b r b n v)
        bb k w o = d.fresh (m2b r k n w) refl o

        was : (k w : ℕ) → k < b → Votes s n k w ⊎ (m2b r k n w ≡ m2b r b n v) → Votes s n k w
        was k w lt (inl o) = o
        was k w lt (inr e) = let ek : k ≡ b = cc in absurd (omega arith)

        vote : (k w : ℕ) → Votes s n k w ⊎ (m2b r k n w ≡ m2b r b n v) → VoteTrue (record { max_bal = suc b; max_vbal = suc b; max_vval = v; pairs = ps }) k w
        vote k w (inl o) = let z = h.votes k w o in record {
          below = omega (arith, z.below);
          highest = omega (arith, z.below);
          value = λ e. let ek : k ≡ b = omega arith in backed_same s b w v i (rw ek at (h.backed k w o)) bk;
        }
        vote k w (inr e) = let ek : k ≡ b = cc in record { below = omega arith; highest = omega arith; value = λ z. cc }

        back : (k w : ℕ) → Votes s n k w ⊎ (m2b r k n w ≡ m2b r b n v) → Backed t k w
        back k w (inl o) = backed_later l (h.backed k w o)
        back k w (inr e) = let ek : k ≡ b = cc in let ew : w ≡ v = cc in rw (ek, ew) (backed_later l bk)

    -- one node's step keeps the invariant, if it keeps its own
    one-step : {s t : View} {n : ℕ} {m : Msg} {c : Cell} → Inv s → Sends s t n m c → node_of m ≡ some n → Later s t → (σ.Good n → Node t n c) → Inv t
    one-step {s} {t} {n} {m} {c} i d e l own a g = go (ℕ_discrete a n)
      where
        go : Dec (a ≡ n) → Node t a (t.cell a)
        go (yes q) = rw (q, d.now) (own (subst σ.Good q g))
        go (no q) = rw (d.others a q) (node_frame l (others_old d e a q) (i a g))

    pub step_inv : (s t : View) → Inv s → Step s t → Inv t
    step_inv s t i (noise keep cells fresh) = λ a g. rw (cells a g) (node_frame l (λ x e q. fresh a x g e q) (i a g))
      where
        l : Later s t
        l = record {
          keep = keep;
          grow = λ b h. rw (cells b h) (omega arith);
          late = λ b c w h o. inl (fresh b (m2b r c b w) h refl refl o);
        }
    step_inv s t i (do1b n b le d) = one-step i d refl l (λ g. node_1b (i n g) le refl refl refl d l)
      where
        l : Later s t
        l = sends_later d (omega arith) (λ a k w e. absurd (five_two (ap kind_of e)))
          where
            five_two : ◌≡◌ {A = ℕ} 5 2 → ⊥
            five_two e = omega arith
    step_inv s t i (do2av n b v ps le lows kn part has stay d) = one-step i d refl l (λ g. node_2av (i n g) (known_safe s b v i kn) le refl refl lows part has stay d l)
      where
        l : Later s t
        l = sends_later d le (λ a k w e. absurd (five_four (ap kind_of e)))
          where
            five_four : ◌≡◌ {A = ℕ} 5 4 → ⊥
            five_four e = omega arith
    step_inv s t i (do2b n b v le bk d) = one-step i d refl l (λ g. node_2b g i bk le refl d l)
      where
        l : Later s t
        l = sends_later d le (λ a k w e. let ea : a ≡ n = cc in let ek : k ≡ b = cc in rw (ea, ek) le)

    -- ---- from the start

    pub start_inv : (s : View) → s.board ≡ [] → ((a : ℕ) → (s.cell a).pairs ≡ []) → Inv s
    start_inv s e p a g = record {
      votes = λ b v o. absurd (nothing o);
      backed = λ b v o. absurd (nothing o);
      tells = λ b mb mv ps o. absurd (nothing o);
      relayed = λ b v o. absurd (Memᴰ.not-nil (rw (p a) at o));
      covered = λ b v o. absurd (nothing o);
      once = λ b v w o q. absurd (nothing o);
      safe = λ b v o. absurd (nothing o);
    }
      where
        nothing : {x : Msg} → On x s → ⊥
        nothing o = Memᴰ.not-nil (rw e at o)
