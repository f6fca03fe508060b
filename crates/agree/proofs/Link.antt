-- Each call of the room is a step of proofs/Safe in every row.
use mathlib.Core.Path.{◌≡◌, refl, sym, ◌∙◌, subst}
use mathlib.Core.Bool.{Bool, true, false, not, ◌&&◌, ◌||◌}
use mathlib.Core.Logic.{◌⊎◌, inl, inr, ⊎_map}
use mathlib.Core.Option.{Option, some, none}
use mathlib.Core.List.Memᴰ
use mathlib.Core.List.{List, [], ◌∷◌, ◌++◌, Memᴰ}
use Prim.Native.Nat.{ℕ, suc, ◌<◌}
use native.Mathlib.Decide.{ℕ_discrete}
use native.Mathlib.Omega.{arith}
use lib.Dec.{T, eqb, leb, ltb, leb→le, ltb→lt, eqb→eq, eqb_refl}
use Rattle.rules.specs.Tests.{pick, any, any_below, bit, all_in, first}
use Rattle.rules.specs.Words.{Pair, Msg, m1a, m1b, m1c, m2av, m2b, Cell, Room, State}
use Rattle.rules.specs.Steps.{Post, p1b, p2av, p2b, other, Call, scan, c1a, c1b, c1c, c2av, c2b, hear, foreign, ask, book, told, without, posted, poster, covers, is2av, is2b, relayed, chosen, heard_from, tells, empty, low, reaches, shown, known, acts, effect, add, put}
use Rattle.rules.specs.Replies.{fields, rules}
use Rattle.rules.proofs.Sound.{and_l, and_r, or_cases, or_l, not_or, any_sound, all_sound, below_sound, in_sound, same_msg_equal, add-keep, add-fresh, add_new, heard_on, set_same, set_node, set_row, without_sub, without-keep, clear}
use Rattle.agree.specs.Room.{step}
use Rattle.agree.proofs.Safe.{View, On, row_of, node_of, Sets, Tells, Empty, Low, Shown, Known, unvoted, after, Backed, Chosen, Sends, Step, noise, do1b, do2av, do2b}

-- a row as proofs/Safe sees it: all that was ever sent, and the cells now
abbrev pub view : ℕ → List Msg → State → View
view r h s = record { board = h; cell = s.cells r }

abbrev pub Sub : List Msg → List Msg → Type 0
Sub l h = (x : Msg) → Memᴰ x l → Memᴰ x h

-- the node a is in the set q
abbrev pub Member : Room → ℕ → ℕ → Type 0
Member ρ a q = (a < ρ.nodes) × T (bit q a)

abbrev pub sets : Room → (ℕ → Type 0) → Sets
sets ρ good = record { Good = good; In = Member ρ; Quorum = λ q. Memᴰ q ρ.quorums; Weak = λ q. Memᴰ q ρ.weaks }

nobody : (a : ℕ) → ◌≡◌ {A = Option ℕ} none (some a) → ⊥
nobody a e = let z : ◌≡◌ {A = ℕ} 0 1 = cc in omega arith

-- ---- what the tests of known safe, relayed and chosen say when they pass

covers_sound : (ρ : Room) (qs : List ℕ) (p : ℕ → Msg → Bool) (l : List Msg) → T (covers ρ qs p l)
    → (q : ℕ) × Memᴰ q qs × ((a : ℕ) → Member ρ a q → (x : Msg) × Memᴰ x l × T (p a x))
covers_sound ρ qs p l t =
    let z = any_sound (λ q. all_in ρ.nodes q (λ a. any (p a) l)) qs t in
    (z.0, z.1, λ a i. any_sound (p a) l (in_sound ρ.nodes z.0 (λ a. any (p a) l) z.2 a i.0 i.1))

empty_sound : (x y : ℕ) (ps : List Pair) → T (empty x y ps) → Empty x y ps
empty_sound x y ps t = eqb→eq x 0 t

low_sound : (c v x y : ℕ) (ps : List Pair) → T (low c v x y ps) → Low c v x y ps
low_sound c v x y ps t =
    let t0 = and_l (leb x (suc c)) (not (eqb x (suc c)) || eqb y v) t in
    let t1 = and_r (leb x (suc c)) (not (eqb x (suc c)) || eqb y v) t in
    (leb→le x (suc c) t0, λ e. eqb→eq y v (not_or (eqb x (suc c)) (eqb y v) t1 (rw e (eqb_refl (suc c)))))

shown_sound : (c v x y : ℕ) (ps : List Pair) → T (shown c v x y ps) → Shown c v x y ps
shown_sound c v x y ps t = let z = any_sound (λ (p : Pair). eqb p.0 v && reaches c p.1) ps t in go z.0.0 z.0.1 z.1 z.2
  where
    go : (w k : ℕ) → Memᴰ (w, k) ps → T (eqb w v && reaches c k) → Shown c v x y ps
    go w k m h =
        let e : v ≡ w = sym (eqb→eq w v (and_l (eqb w v) (reaches c k) h)) in
        let t : T (reaches c k) = and_r (eqb w v) (reaches c k) h in
        (k, rw e m, omega (arith, leb→le))

module _ (ρ : Room) (good : ℕ → Type 0) where
  abbrev σ : Sets
  σ = sets ρ good

  tells_sound : (p : ℕ → ℕ → List Pair → Bool) (P : ℕ → ℕ → List Pair → Type 0)
      → ((x y : ℕ) (ps : List Pair) → T (p x y ps) → P x y ps)
      → (s : View) (r b a : ℕ) (m : Msg) → On m s → T (tells p r b a m) → Tells r σ s b a P
  tells_sound p P f s r b a (m1a q k) o t = absurd t
  tells_sound p P f s r b a (m1b q k n x y ps) o t =
      let er : q ≡ r = search (eqb→eq, and_l, and_r) in
      let eb : k ≡ b = search (eqb→eq, and_l, and_r) in
      let en : n ≡ a = search (eqb→eq, and_l, and_r) in record {
        mbal = x;
        mval = y;
        ps = ps;
        on = rw (← er, ← eb, ← en) o;
        holds = f x y ps (search (and_r));
      }
  tells_sound p P f s r b a (m1c q k w) o t = absurd t
  tells_sound p P f s r b a (m2av q k n w) o t = absurd t
  tells_sound p P f s r b a (m2b q k n w) o t = absurd t

  known_sound : (h : List Msg) (s : State) → Sub s.board h → (r n b v : ℕ) → T (known ρ s r n b v) → Known r σ (view r h s) b v
  known_sound h s sub r n b v t = go (or_cases (covers ρ ρ.quorums (tells empty r b) l) (any_below p b) t)
    where
      l : List Msg
      l = heard_from (s.heard n) 0 s.board

      p : ℕ → Bool
      p c = covers ρ ρ.quorums (tells (low c v) r b) l && covers ρ ρ.weaks (tells (shown c v) r b) l

      -- a listed set all of whose nodes told what passes
      told_by : (qs : List ℕ) (f : ℕ → ℕ → List Pair → Bool) (P : ℕ → ℕ → List Pair → Type 0)
          → ((x y : ℕ) (ps : List Pair) → T (f x y ps) → P x y ps) → T (covers ρ qs (tells f r b) l)
          → (q : ℕ) × Memᴰ q qs × ((a : ℕ) → Member ρ a q → Tells r σ (view r h s) b a P)
      told_by qs f P k u = let z = covers_sound ρ qs (tells f r b) l u in
          (z.0, z.1, λ a i. let y = z.2 a i in tells_sound f P k (view r h s) r b a y.0 (sub y.0 (heard_on (s.heard n) 0 s.board y.0 y.1)) y.2)

      go : T (covers ρ ρ.quorums (tells empty r b) l) ⊎ T (any_below p b) → Known r σ (view r h s) b v
      go (inl u) = let z = told_by ρ.quorums empty Empty empty_sound u in unvoted z.0 z.1 z.2
      go (inr u) =
          let c = below_sound p b u in
          let x = covers ρ ρ.quorums (tells (low c.0 v) r b) l in
          let y = covers ρ ρ.weaks (tells (shown c.0 v) r b) l in
          let z = told_by ρ.quorums (low c.0 v) (Low c.0 v) (low_sound c.0 v) (and_l x y c.2) in
          let w = told_by ρ.weaks (shown c.0 v) (Shown c.0 v) (shown_sound c.0 v) (and_r x y c.2) in
          after c.0 c.1 z.0 z.1 z.2 w.0 w.1 w.2

  relayed_sound : (h : List Msg) (s : State) → Sub s.board h → (r b v : ℕ) → T (relayed ρ s r b v) → Backed r σ (view r h s) b v
  relayed_sound h s sub r b v t = let z = covers_sound ρ ρ.quorums (is2av r b v) s.board t in record {
    set = z.0;
    listed = z.1;
    all = λ a i. let y = z.2 a i in rw (← same_msg_equal y.0 (m2av r b a v) y.2) (sub y.0 y.1);
  }

  pub chosen_sound : (h : List Msg) (s t : State) → Sub s.board h → (r b v : ℕ) → T (chosen ρ s r b v) → Chosen r σ (view r h t) v
  chosen_sound h s u sub r b v t = let z = covers_sound ρ ρ.quorums (is2b r b v) s.board t in record {
    bal = b;
    set = z.0;
    listed = z.1;
    all = λ a i. let y = z.2 a i in rw (← same_msg_equal y.0 (m2b r b a v) y.2) (sub y.0 y.1);
  }

  -- ---- calls are steps

  -- what was sent by the state t is a step from what was sent by s
  pub record Next (r : ℕ) (h : List Msg) (s t : State) : Type 0 where
    pub hist : List Msg
    pub sub : Sub t.board hist
    pub keep : Sub h hist
    pub move : Step r σ (view r h s) (view r hist t)

  -- nothing is sent, and no good node's cell of this row moves; the board may lose messages
  pub still : (r : ℕ) (h : List Msg) (s t : State) → Sub t.board h → ((a : ℕ) → good a → t.cells r a ≡ s.cells r a) → Next r h s t
  still r h s t sub c = record { hist = h; sub = sub; keep = λ x o. o; move = noise (λ x e o. o) c (λ a x g e q o. o) }

  add_sub : (m : Msg) (l h : List Msg) → Sub l h → Sub (add m l) (add m h)
  add_sub m l h sub x o = go (add-fresh m l x o)
    where
      go : Memᴰ x l ⊎ (x ≡ m) → Memᴰ x (add m h)
      go (inl p) = add-keep m h x (sub x p)
      go (inr e) = rw e (add_new m h)

  -- a message of another row, of no node, or of a node that breaks the rules
  aside : (r : ℕ) (h : List Msg) (s t : State) (m : Msg) → Sub s.board h → t.board ≡ add m s.board → ((a : ℕ) → t.cells r a ≡ s.cells r a)
      → ((a : ℕ) → good a → row_of m ≡ r → node_of m ≡ some a → ⊥) → Next r h s t
  aside r h s t m sub eb ec no' = record {
    hist = add m h;
    sub = λ x o. add_sub m s.board h sub x (rw eb at o);
    keep = λ x o. add-keep m h x o;
    move = noise (λ x e o. add-keep m h x o) (λ a g. ec a) (λ a x g e q o. go a x g e q (add-fresh m h x o));
  }
    where
      go : (a : ℕ) (x : Msg) → good a → row_of x ≡ r → node_of x ≡ some a → Memᴰ x h ⊎ (x ≡ m) → Memᴰ x h
      go a x g e q (inl o) = o
      go a x g e q (inr z) = absurd (no' a g (rw z at e) (rw z at q))

  -- an act in one row, seen from any
  seen : (r q n : ℕ) (h : List Msg) (s : State) (m : Msg) (c : Cell) → Sub s.board h → row_of m ≡ q
      → (Sends q σ (view q h s) (view q (add m h) (put s (acts m q n c))) n m c → Step q σ (view q h s) (view q (add m h) (put s (acts m q n c))))
      → Next r h s (put s (acts m q n c))
  seen r q n h s m c sub e f = go (ℕ_discrete q r)
    where
      here : Next q h s (put s (acts m q n c))
      here = record {
        hist = add m h;
        sub = add_sub m s.board h sub;
        keep = λ x o. add-keep m h x o;
        move = f (record {
          keep = λ x e o. add-keep m h x o;
          fresh = λ x e o. add-fresh m h x o;
          new = add_new m h;
          now = set_same s.cells q n c;
          others = λ a z. set_node s.cells q n c a z;
        });
      }

      go : Dec (q ≡ r) → Next r h s (put s (acts m q n c))
      go (yes z) = subst (λ (x : ℕ). Next x h s (put s (acts m q n c))) z here
      go (no z) = aside r h s (put s (acts m q n c)) m sub refl (λ a. set_row s.cells q n c r a (λ y. z (sym y))) (λ a g y k. z (sym e ∙ y))

  split_last : (ps : List Pair) (p x : Pair) → Memᴰ x (ps ++ (p ∷ [])) → Memᴰ x ps ⊎ (x ≡ p)
  split_last ps p x m = go (Memᴰ.append_cases ps m)
    where
      go : Memᴰ x ps ⊎ Memᴰ x (p ∷ []) → Memᴰ x ps ⊎ (x ≡ p)
      go (inl o) = inl o
      go (inr o) = inr (Memᴰ.eq_of_singleton o)

  -- a foreign post marks the node that it stands on
  posts_mark : (s : State) (p : Post) → T (fields ρ s (foreign p)) → (a : ℕ) → node_of (posted p) ≡ some a → T (eqb a (poster p) || s.marks a)
  unfolding fields
  posts_mark s (p1b q b n x y k l) t a e = let z : a ≡ n = cc in or_l (eqb a n) (s.marks a) (rw z (eqb_refl n))
  posts_mark s (p2av q b n v) t a e = let z : a ≡ n = cc in or_l (eqb a n) (s.marks a) (rw z (eqb_refl n))
  posts_mark s (p2b q b n v) t a e = let z : a ≡ n = cc in or_l (eqb a n) (s.marks a) (rw z (eqb_refl n))
  posts_mark s other t a e = absurd t

  link : (r : ℕ) (h : List Msg) (s : State) (c : Call) → Sub s.board h → first (rules ρ s c) ≡ 0
      → ((n : ℕ) → T ((put s (effect s c)).marks n) → ¬ good n) → Next r h s (put s (effect s c))
  link r h s (scan a b) sub e bad = still r h s (put s (effect s (scan a b))) sub (λ a g. refl)
  link r h s (c1a q b) sub e bad = aside r h s (put s (effect s (c1a q b))) (m1a q b) sub refl (λ a. refl) (λ a g y k. nobody a k)
  link r h s (c1b q n b) sub e bad =
      let z = clear (rules ρ s (c1b q n b)) tt e in
      seen r q n h s (told s q n b) _ sub refl (λ d. do1b n b (leb→le (s.cells q n).max_bal b (search)) d)
  link r h s (c1c q b v) sub e bad = aside r h s (put s (effect s (c1c q b v))) (m1c q b v) sub refl (λ a. refl) (λ a g y k. nobody a k)
  link r h s (c2av q n b v) sub e bad =
      let z = clear (rules ρ s (c2av q n b v)) tt e in
      let ps = (s.cells q n).pairs in
      seen r q n h s (m2av q b n v) _ sub refl
      (λ d. do2av n b v (without v ps ++ ((v, b) ∷ [])) (leb→le (s.cells q n).max_bal (suc b) (search))
      (λ w k m. ltb→lt k b (all_sound (λ (p : Pair). ltb p.1 b) ps (search) (w, k) m))
      (known_sound h s sub q n b v (search))
      (λ p m. ⊎_map (without_sub v ps p) (λ z. z) (split_last (without v ps) (v, b) p m))
      (Memᴰ.append_right (without v ps) (Memᴰ.head refl))
      (λ w k y m. Memᴰ.append_left ((v, b) ∷ []) (without-keep v ps (w, k) y m))
      d)
  link r h s (c2b q n b v) sub e bad =
      let z = clear (rules ρ s (c2b q n b v)) tt e in
      seen r q n h s (m2b q b n v) _ sub refl
      (λ d. do2b n b v (leb→le (s.cells q n).max_bal (suc b) (search)) (relayed_sound h s sub q b v (search)) d)
  link r h s (hear n k) sub e bad = still r h s (put s (effect s (hear n k))) sub (λ a g. refl)
  link r h s (foreign p) sub e bad =
      let z = clear (rules ρ s (foreign p)) tt e in
      aside r h s (put s (effect s (foreign p))) (posted p) sub refl (λ a. refl) (λ a g y k. bad a (posts_mark s p z.0 a k) g)
  link r h s (ask q) sub e bad = still r h s s sub (λ a g. refl)
  link r h s (book p q) sub e bad = still r h s s sub (λ a g. refl)

  pub link_step : (r : ℕ) (h : List Msg) (s : State) (c : Call) → Sub s.board h → ((n : ℕ) → T ((step ρ s c).marks n) → ¬ good n) → Next r h s (step ρ s c)
  link_step r h s c sub bad = go (eqb (first (rules ρ s c)) 0) refl bad
    where
      go : (b : Bool) → eqb (first (rules ρ s c)) 0 ≡ b → ((n : ℕ) → T ((pick b (put s (effect s c)) s).marks n) → ¬ good n) → Next r h s (pick b (put s (effect s c)) s)
      go true e k = link r h s c sub (eqb→eq (first (rules ρ s c)) 0 (rw e tt)) k
      go false e k = still r h s s sub (λ a g. refl)
