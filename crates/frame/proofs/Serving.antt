-- What a frame's call did, from what the call that it asks for did and how its reply is told in numbers.
use mathlib.Core.Path.{◌≡◌, refl, ap, sym, ◌∙◌, subst}
use mathlib.Core.List.{List}
use Prim.Native.Nat.{ℕ}
use Rattle.rules.specs.declared.House.{House}
use Rattle.rules.specs.Lent.{Memory, memory}
use Rattle.rules.specs.Steps.{ask}
use Rattle.rules.specs.Replies.{Answer, Did, Opened}
use Rattle.step.specs.declared.Step as taken
use Rattle.step.specs.Given.{call_of}
use Rattle.open.specs.Room.{room}
use Rattle.tell.specs.Past.{BookDid}
use Rattle.frame.specs.declared.Asked.{Asked}
use Rattle.frame.specs.declared.Asked.TheVariants.{Opening, Step, Row, Book}
use Rattle.frame.specs.Frame.{loan, CallDid}

-- the reply in numbers, and the same house record
told : (P : Answer → House → Type 0) {a b : Answer} {h k : House} → (b ≡ a) × (k ≡ h) → P a h → P b k
told P {a} {b} {h} {k} e d = subst (λ (x : Answer). P x k) (sym e.0) (subst (λ (x : House). P a x) (sym e.1) d)

module _ (pairs quorums weaks p t : List ℕ) {x : Asked} {m : Memory} {a b : Answer} {h k : House} {f c d : List ℕ} where
  pub opening : {n u r z : ℕ} → x ≡ Opening n u r z → (b ≡ a) × (k ≡ h) → Opened (room n u r z quorums weaks) m a (memory h f c d)
      → CallDid x pairs quorums weaks (loan m p t) b (loan (memory k f c d) p t)
  unfolding CallDid
  opening {n} {u} {r} {z} e s o =
      subst (λ (y : Asked). CallDid y pairs quorums weaks (loan m p t) b (loan (memory k f c d) p t)) (sym e)
      (told (λ v w. Opened (room n u r z quorums weaks) m v (memory w f c d)) s o, record { book = refl; waiting = refl })

  pub step : {s : taken.Step} → x ≡ Step s → (b ≡ a) × (k ≡ h) → Did m (call_of s pairs) a (memory h f c d)
      → CallDid x pairs quorums weaks (loan m p t) b (loan (memory k f c d) p t)
  unfolding CallDid
  step {s} e g o =
      subst (λ (y : Asked). CallDid y pairs quorums weaks (loan m p t) b (loan (memory k f c d) p t)) (sym e)
      (told (λ v w. Did m (call_of s pairs) v (memory w f c d)) g o, record { book = refl; waiting = refl })

  pub row : {r : ℕ} → x ≡ Row r → (b ≡ a) × (k ≡ h) → Did m (ask r) a (memory h f c d)
      → CallDid x pairs quorums weaks (loan m p t) b (loan (memory k f c d) p t)
  unfolding CallDid
  row {r} e g o =
      subst (λ (y : Asked). CallDid y pairs quorums weaks (loan m p t) b (loan (memory k f c d) p t)) (sym e)
      (told (λ v w. Did m (ask r) v (memory w f c d)) g o, record { book = refl; waiting = refl })

module _ (pairs quorums weaks : List ℕ) {x : Asked} {p t p' t' : List ℕ} {a b : Answer} {h k l : House} {f c d : List ℕ} where
  pub book : x ≡ Book → (b ≡ a) × (k ≡ h) → BookDid (memory l f c d) p t p' t' a × (h ≡ l)
      → CallDid x pairs quorums weaks (loan (memory l f c d) p t) b (loan (memory k f c d) p' t')
  unfolding CallDid
  book e g o =
      subst (λ (y : Asked). CallDid y pairs quorums weaks (loan (memory l f c d) p t) b (loan (memory k f c d) p' t')) (sym e)
      (subst (λ (v : Answer). BookDid (memory l f c d) p t p' t' v) (sym g.0) o.0, ap (λ (w : House). memory w f c d) (g.1 ∙ o.1))
