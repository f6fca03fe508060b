-- A reply is the number of the first test that fails; a refusal changes nothing; a contract allows one outcome.
use mathlib.Core.Path.{◌≡◌, refl, sym, ap, ◌∙◌}
use mathlib.Core.Bool.{Bool, true, false, ◌&&◌}
use mathlib.Core.List.{List, [], ◌∷◌, ◌++◌, append-nil}
use Prim.Native.Nat.{ℕ, ◌<◌}
use native.Mathlib.Omega.{arith}
use borrow.Author.Tests.{ne_eqb}
use lib.Dec.{T, eqb}
use Rattle.rules.specs.Tests.{pick, all, first}
use Rattle.rules.specs.Lent.{Memory}
use Rattle.rules.specs.Steps.{Call, scan, c1a, c1b, c1c, c2av, c2b, hear, foreign, ask, book, write}
use Rattle.rules.specs.Replies.{tests, reply, change, after, answer, rows_after, waiting_after, open_reply, opening}
use Rattle.rules.specs.Promises.{RefusalKeeps, BookKeeps, OpeningKeeps, Held, Fails, Numbered, FirstFails, NoneFails, CallRefused, CallDone, open_tests, OpeningRefused, OpeningDone, CallSettled, OpeningSettled}
use Rattle.rules.proofs.Sound.{clear, Clear}

-- ---- a refusal changes nothing

pub refusal_keeps : RefusalKeeps
unfolding after change write answer
refusal_keeps m c n =
    let e : eqb (reply m c) 0 ≡ false = ne_eqb (reply m c) 0 n in
    record { memory = rw e; answer = rw e }

pub book_keeps : BookKeeps
unfolding rows_after waiting_after
book_keeps m p q n =
    let e : eqb (reply m (book p q)) 0 ≡ false = ne_eqb (reply m (book p q)) 0 n in
    record { rows = rw e; waiting = rw e }

pub opening_keeps : OpeningKeeps
unfolding opening
opening_keeps ρ m n = rw (ne_eqb (open_reply ρ m) 0 n)

-- ---- the first test that fails

fails : (l : List (Bool × ℕ)) (k : ℕ) → 0 < k → first l ≡ k → Fails l k
fails [] k p e = absurd (omega arith)
fails (x ∷ xs) k p e = go (fails xs k p) x.0 refl e
  where
    go : (first xs ≡ k → Fails xs k) → (b : Bool) → x.0 ≡ b → pick b (first xs) x.1 ≡ k → Fails (x ∷ xs) k
    go r true d z = let f = r z in record {
      before = x ∷ f.before;
      behind = f.behind;
      parts = ap (λ (t : List (Bool × ℕ)). x ∷ t) f.parts;
      held = rw d f.held;
    }
    go r false d z = record { before = []; behind = xs; parts = λ i. (d i, z i) ∷ xs; held = tt }

-- tests that hold say nothing
past : (xs ys : List (Bool × ℕ)) → Held xs → first (xs ++ ys) ≡ first ys
past [] ys t = refl
past (x ∷ xs) ys t = go (past xs ys) x.0 t
  where
    go : (Held xs → first (xs ++ ys) ≡ first ys) → (b : Bool) → T (b && all (λ (x : Bool × ℕ). x.0) xs) → pick b (first (xs ++ ys)) x.1 ≡ first ys
    go r true u = r u
    go r false u = absurd u

pub first_fails : FirstFails
first_fails l k p = (fails l k p, λ f. ap first f.parts ∙ past f.before ((false, k) ∷ f.behind) f.held)

held : (l : List (Bool × ℕ)) → Clear l → Held l
held [] z = tt
held (x ∷ xs) z = go (held xs) x.0 z
  where
    go : (Clear xs → Held xs) → (b : Bool) → T b × Clear xs → T (b && all (λ (x : Bool × ℕ). x.0) xs)
    go r true u = r u.1
    go r false u = absurd u.0

pub none_fails : NoneFails
none_fails l n = (λ e. held l (clear l n e), λ t. ap first (sym (append-nil l)) ∙ past l [] t)

-- ---- of a call, and of opening

pub call_refused : CallRefused
unfolding reply
call_refused m c k p = first_fails (tests m c) k p

-- every test of a call has a number
pub numbered : (m : Memory) (c : Call) → Numbered (tests m c)
numbered m (scan a b) = tt
numbered m (c1a r b) = tt
numbered m (c1b r n b) = tt
numbered m (c1c r b v) = tt
numbered m (c2av r n b v) = tt
numbered m (c2b r n b v) = tt
numbered m (hear n k) = tt
numbered m (foreign p) = tt
numbered m (ask r) = tt
numbered m (book p q) = tt

pub call_done : CallDone
unfolding reply
call_done m c = none_fails (tests m c) (numbered m c)

pub opening_refused : OpeningRefused
unfolding open_reply
opening_refused ρ m k p = first_fails (open_tests ρ m) k p

pub opening_done : OpeningDone
unfolding open_reply
opening_done ρ m = none_fails (open_tests ρ m) tt

-- ---- one outcome

pub call_settled : CallSettled
call_settled m c a a' m₁ m₂ p q = (p.answer ∙ sym q.answer, p.memory ∙ sym q.memory)

pub opening-settled : OpeningSettled
opening-settled ρ m a a' m₁ m₂ p q = (p.answer ∙ sym q.answer, p.memory ∙ sym q.memory)
