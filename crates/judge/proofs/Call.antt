-- A call's three ways: refused at the gate, refused by its judge, done.
use Rattle.std.proofs.Common.{◌≡◌, refl, ap, sym, ◌∙◌, Bool, true, false, List, [], ◌∷◌, ◌++◌, ℕ, T, Err, eq-eqb, ne_eqb}
use Rattle.std.specs.Result.{IsErr, IsErrAnd}
use Rattle.std.proofs.Common.{Result}
use Rattle.std.proofs.lemmas.Result.{err_from_is_err_and}
use Rattle.rules.specs.Tests.{pick, first}
use Rattle.rules.specs.Lent.{Memory, room_of, read, Typed, long}
use Rattle.rules.specs.Steps.{Call}
use Rattle.rules.specs.Replies.{Answer, rules, areas, gate, reply, after, number_of, answer_of, bare, tell, answer, Did}
use Rattle.rules.specs.declared.Refusal.{Refusal}
use Rattle.rules.specs.declared.Reply.{Reply}
use Rattle.rules.proofs.Sound.{and_l, Clear, clear}
use Rattle.rules.proofs.Named.{positive}
use Rattle.kept.specs.Kept.{Whole}
use Rattle.kept.proofs.Stay as stay
use Rattle.judge.specs.Judged.{verdict}

-- ---- numbers of two lists of tests, one after the other

first_past : (l k : List (Bool × ℕ)) → Clear l → first (l ++ k) ≡ first k
first_past [] k c = refl
first_past (x ∷ l) k c = go (first_past l k c.1) x.0 c.0
  where
    go : first (l ++ k) ≡ first k → (b : Bool) → T b → pick b (first (l ++ k)) x.1 ≡ first k
    go r true t = r
    go r false t = absurd t

first_stops : (l k : List (Bool × ℕ)) → ¬ (first l ≡ 0) → first (l ++ k) ≡ first l
first_stops [] k n = absurd (n refl)
first_stops (x ∷ l) k n = go (first_stops l k) x.0 n
  where
    go : (¬ (first l ≡ 0) → first (l ++ k) ≡ first l) → (b : Bool) → ¬ (pick b (first l) x.1 ≡ 0) → pick b (first (l ++ k)) x.1 ≡ pick b (first l) x.1
    go r true n = r n
    go r false n = refl

module _ (m : Memory) (c : Call) where
  -- memory past the gate
  pub past : Typed m.house → 0 ≡ first (gate m c) → Whole m
  past t e = let z = clear (gate m c) tt (sym e) in record { typed = t; counts = z.0; long = and_l (long m) (areas m.house c) z.1.0; form = z.1.1.0 }

  -- and there the judge's number is the reply
  judged : {k : ℕ} → 0 ≡ first (gate m c) → k ≡ verdict m c → reply m c ≡ k
  unfolding reply verdict
  judged e f = first_past (gate m c) (rules (room_of m.house) (read m) c) (clear (gate m c) tt (sym e)) ∙ sym f

  -- a refusal is the answer, and leaves memory as it was
  refused : (x : Refusal) → reply m c ≡ number_of x → Did m c (answer_of (Err x)) m
  unfolding answer
  refused x e = let n : ¬ (reply m c ≡ 0) = λ w. positive x (sym e ∙ w) in record { answer = ap bare (sym e) ∙ rw (ne_eqb (reply m c) 0 n); memory = sym (stay.refused m c n) }

  pub at_gate : (x : Refusal) → number_of x ≡ first (gate m c) → Did m c (answer_of (Err x)) m
  unfolding reply
  at_gate x e = refused x (first_stops (gate m c) (rules (room_of m.house) (read m) c) (λ z. positive x (e ∙ z)) ∙ sym e)

  pub by_judge : (x : Refusal) → 0 ≡ first (gate m c) → number_of x ≡ verdict m c → Did m c (answer_of (Err x)) m
  by_judge x e f = refused x (judged e f)

  -- an accepted call is answered what it tells
  pub accepted : 0 ≡ first (gate m c) → 0 ≡ verdict m c → reply m c ≡ 0
  accepted e f = judged e f

-- the same call by another name
pub as_said : (m : Memory) {c d : Call} {a : Answer} {n : Memory} → c ≡ d → Did m d a n → Did m c a n
as_said m e f = record { answer = f.answer ∙ ap (answer m) (sym e); memory = f.memory ∙ ap (after m) (sym e) }

-- ---- the same by what the code's steps show: the exit of a `?`, and an act in the numbers that the judge narrowed

pub gate_exit : (m : Memory) (c : Call) (x : Refusal) (r : Result Reply Refusal) → number_of x ≡ first (gate m c) → IsErr r × IsErrAnd r (λ y. y ≡ x)
    → Did m c (answer_of r) m
gate_exit m c x r e f = let p = err_from_is_err_and r f.1 in rw (p.1, p.2) (at_gate m c x e)

pub judge_exit : (m : Memory) (c : Call) (x : Refusal) (r : Result Reply Refusal) → 0 ≡ first (gate m c) → number_of x ≡ verdict m c → IsErr r × IsErrAnd r (λ y. y ≡ x)
    → Did m c (answer_of r) m
judge_exit m c x r g e f = let p = err_from_is_err_and r f.1 in rw (p.1, p.2) (by_judge m c x g e)

pub acted : (m : Memory) (c d : Call) {a : Answer} {n : Memory} → 0 ≡ first (gate m c) → 0 ≡ verdict m c → d ≡ c → a ≡ tell (room_of m.house) (read m) c
    → n ≡ after m d → Did m c a n
unfolding answer
acted m c d g e s t f = record { answer = t ∙ rw (eq-eqb (reply m c) 0 (accepted m c g e)); memory = f ∙ ap (after m) s }
