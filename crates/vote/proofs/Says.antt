-- What the tests of a 2av and of a 2b say together: the number that the rules reply.
use mathlib.Core.Path.{◌≡◌, refl, ap, sym, ◌∙◌}
use mathlib.Core.Bool.{Bool, true, false}
use mathlib.Core.List.{[], ◌∷◌}
use Prim.Native.Nat.{ℕ, suc, ◌≤◌}
use native.Mathlib.Omega.{arith}
use lib.Dec.{leb, ltb, leb→le}
use lib.ListN.{length}
use Rattle.rules.specs.Tests.{pick, all, first}
use Rattle.rules.specs.Words.{Pair, m1c, m2av, m2b, Room, State}
use Rattle.rules.specs.Lent.{Memory, room_of, read, counts, limits}
use Rattle.rules.specs.Steps.{Call, c2av, c2b, has, fits, without, relayed, known}
use Rattle.rules.specs.Replies.{fields, tubes}
use Rattle.rules.proofs.Sound.{and_l, and_r}
use Rattle.rules.proofs.Codec.{At}
use Rattle.kept.specs.Kept.{Whole}
use Rattle.kept.proofs.Ready.{length_intake, at_2}
use Rattle.judge.specs.Judged.{verdict}
use Rattle.vote.specs.Begun.{begun}

-- both lists of the house record are within their limits
pub lists_in : (m : Memory) → Whole m → (m.house.listed ≤ 64) × (m.house.backers ≤ 64)
unfolding counts
lists_in m w = let t = w.counts in (search (leb→le, and_l, and_r) depth 9, search (leb→le, and_l, and_r) depth 9)

abbrev three : Bool → Bool → Bool → ℕ → ℕ
three a b c k = pick a (pick b (pick c k 8) 7) 6

refused : (a b c : Bool) (k : ℕ) → (three a b c 0 ≡ 0 → ⊥) → three a b c 0 ≡ three a b c k
refused true true true k e = absurd (e refl)
refused true true false k e = refl
refused true false c k e = refl
refused false b c k e = refl

went_on : (a b c : Bool) (k : ℕ) → three a b c 0 ≡ 0 → (a ≡ true) × (three a b c k ≡ k)
went_on true true true k e = (refl, refl)
went_on true true false k e = absurd (omega arith)
went_on true false c k e = absurd (omega arith)
went_on false b c k e = absurd (omega arith)

-- a vote's numbers, narrowed, say what the given ones do
module _ (m : Memory) {r n b v row node ballot tube : ℕ} (e : (n ≡ node) × ((r ≡ row) × (b ≡ ballot) × (v ≡ tube))) where
  pub same_begun : begun m r n b v ≡ begun m row node ballot tube
  same_begun = λ i. begun m (e.1.0 i) (e.0 i) (e.1.1 i) (e.1.2 i)

  pub same_2av : verdict m (c2av r n b v) ≡ verdict m (c2av row node ballot tube)
  same_2av = λ i. verdict m (c2av (e.1.0 i) (e.0 i) (e.1.1 i) (e.1.2 i))

  pub same_2b : verdict m (c2b r n b v) ≡ verdict m (c2b row node ballot tube)
  same_2b = λ i. verdict m (c2b (e.1.0 i) (e.0 i) (e.1.1 i) (e.1.2 i))

  pub same_six : limits (room_of m.house) (m2av r b n v) ≡ limits (room_of m.house) (m2av row ballot node tube)
  same_six = λ i. limits (room_of m.house) (m2av (e.1.0 i) (e.1.1 i) (e.0 i) (e.1.2 i))

  pub same_seven : leb v m.house.tubes ≡ leb tube m.house.tubes
  same_seven = λ i. leb (e.1.2 i) m.house.tubes

module _ (m : Memory) (r n b v : ℕ) where
  abbrev ρ : Room
  ρ = room_of m.house

  abbrev s : State
  s = read m

  abbrev six : Bool
  six = limits ρ (m2av r b n v)

  abbrev seven : Bool
  seven = leb v m.house.tubes

  abbrev eight : Bool
  eight = leb (s.cells r n).max_bal (suc b)

  pub says-begun : (x y z : Bool) → six ≡ x → seven ≡ y → eight ≡ z → three x y z 0 ≡ begun m r n b v
  unfolding begun
  says-begun x y z p q t = sym (λ i. three (p i) (q i) (t i) 0)

  -- numbers within limits
  pub inside : six ≡ true → At ρ r n × (b ≤ 15) × (v ≤ 64)
  unfolding limits
  inside e = let p = at_2 ρ r n b v (rw e tt) in (p.0, leb→le b 15 p.1, leb→le v 64 (and_r (leb 1 v) (leb v 64) p.2))

  pub begun-inside : begun m r n b v ≡ 0 → At ρ r n × (b ≤ 15) × (v ≤ 64)
  unfolding begun
  begun-inside e = inside (went_on six seven eight 0 e).0

  -- the rules of 2av and 2b are those three and then the step's own
  abbrev own_2av : Bool → Bool → Bool → Bool → Bool → ℕ
  own_2av x y z t u = first ((x, 9) ∷ (y, 10) ∷ (z, 11) ∷ (t, 14) ∷ (u, 15) ∷ [])

  abbrev own_2b : Bool → Bool → ℕ
  own_2b x y = first ((x, 12) ∷ (y, 15) ∷ [])

  all_2av : three six seven eight (own_2av (has (m1c r b v) s.board) (all (λ (p : Pair). ltb p.1 b) (s.cells r n).pairs) (known ρ s r n b v) (ltb (length (without v (s.cells r n).pairs)) 16) (fits ρ s (m2av r b n v))) ≡ verdict m (c2av r n b v)
  unfolding verdict fields tubes
  all_2av = sym (ap (λ (t : ℕ). three six (leb v t) eight (own_2av (has (m1c r b v) s.board) (all (λ (p : Pair). ltb p.1 b) (s.cells r n).pairs) (known ρ s r n b v) (ltb (length (without v (s.cells r n).pairs)) 16) (fits ρ s (m2av r b n v)))) (length_intake m))

  all_2b : three six seven eight (own_2b (relayed ρ s r b v) (fits ρ s (m2b r b n v))) ≡ verdict m (c2b r n b v)
  unfolding verdict fields tubes limits
  all_2b = sym (ap (λ (t : ℕ). three six (leb v t) eight (own_2b (relayed ρ s r b v) (fits ρ s (m2b r b n v)))) (length_intake m))

  early : (c : Call) (j k : ℕ) → three six seven eight k ≡ verdict m c → j ≡ begun m r n b v → (j ≡ 0 → ⊥) → j ≡ verdict m c
  unfolding begun
  early c j k a e z = e ∙ refused six seven eight k (λ t. z (e ∙ t)) ∙ a

  later : (c : Call) (k : ℕ) → three six seven eight k ≡ verdict m c → begun m r n b v ≡ 0 → k ≡ verdict m c
  unfolding begun
  later c k a z = sym (went_on six seven eight k z).1 ∙ a

  pub early_2av : (j : ℕ) → j ≡ begun m r n b v → (j ≡ 0 → ⊥) → j ≡ verdict m (c2av r n b v)
  early_2av j e z = early (c2av r n b v) j _ all_2av e z

  pub early_2b : (j : ℕ) → j ≡ begun m r n b v → (j ≡ 0 → ⊥) → j ≡ verdict m (c2b r n b v)
  early_2b j e z = early (c2b r n b v) j _ all_2b e z

  pub says_2av : begun m r n b v ≡ 0 → (x y z t u : Bool) → has (m1c r b v) s.board ≡ x → all (λ (p : Pair). ltb p.1 b) (s.cells r n).pairs ≡ y → known ρ s r n b v ≡ z
      → ltb (length (without v (s.cells r n).pairs)) 16 ≡ t → fits ρ s (m2av r b n v) ≡ u → own_2av x y z t u ≡ verdict m (c2av r n b v)
  says_2av g x y z t u e f h i j = sym (λ k. own_2av (e k) (f k) (h k) (i k) (j k)) ∙ later (c2av r n b v) _ all_2av g

  pub says_2b : begun m r n b v ≡ 0 → (x y : Bool) → relayed ρ s r b v ≡ x → fits ρ s (m2b r b n v) ≡ y → own_2b x y ≡ verdict m (c2b r n b v)
  says_2b g x y e f = sym (λ k. own_2b (e k) (f k)) ∙ later (c2b r n b v) _ all_2b g
