-- Foreign posts of every kind: what their tests say together, what they let the writers do, and what is left.
use Rattle.std.proofs.Common.{◌≡◌, refl, ap, sym, ◌∙◌, Bool, true, false, ◌&&◌, List, [], ◌∷◌, ℕ, ◌≤◌, ◌<◌, T, leb, leb→le, length, arith, le-leb}
use Rattle.rules.specs.Tests.{first, all}
use Rattle.rules.specs.Words.{height_of, Room, Msg, m1a, m1b, m1c, m2av, m2b}
use Rattle.rules.specs.Lent.{Memory, memory, pairs_of, stored, meaning, room_of, read, marked, limits, scanned}
use Rattle.rules.specs.Steps.{Post, p1b, p2av, p2b, other, foreign, fits, posted, poster, write}
use Rattle.rules.specs.Replies.{post_in, fields, tubes, reply, after}
use Rattle.rules.specs.declared.House.{House}
use Rattle.rules.specs.declared.Message.{Message}
use Rattle.rules.proofs.Sound.{and_l, and_r}
use Rattle.rules.proofs.Scan.{holds}
use Rattle.rules.proofs.Codec.{Small, pairs_back}
use Rattle.board.specs.Asked.{Own, Postable, Posted}
use Rattle.board.proofs.Bytes.{own-stored, means_stored}
use Rattle.pairs.specs.Pairs.{passes}
use Rattle.pairs.specs.declared.Ask.TheVariants.{Scanned}
use Rattle.kept.specs.Kept.{Whole}
use Rattle.kept.proofs.Sim.{Sendable}
use Rattle.kept.proofs.Ready.{length_intake, post-limits, Passed, passed, ready}
use Rattle.kept.proofs.Good.{poster_in}
use Rattle.kept.proofs.Stay.{done}
use Rattle.judge.specs.Judged.{verdict}
use Rattle.judge.proofs.Past.{bounds}
use Rattle.write.proofs.Acts.{postable}
use Rattle.write.proofs.Acts as acts

pub says_foreign : (m : Memory) (p : Post) (x y z : Bool) → post_in (room_of m.house) p ≡ x → scanned m.house.tubes (posted p) ≡ y
    → fits (room_of m.house) (read m) (posted p) ≡ z → first ((x, 6) ∷ (y, 7) ∷ (z, 15) ∷ []) ≡ verdict m (foreign p)
unfolding verdict fields tubes
says_foreign m p x y z e f g = sym (λ i. first ((e i, 6) ∷ ((ap (λ (t : ℕ). scanned t (posted p)) (length_intake m) ∙ f) i, 7) ∷ (g i, 15) ∷ []))

pub small_post : (ρ : Room) (p : Post) → T (post_in ρ p) → Small (posted p)
unfolding limits
small_post ρ (p1b r b n x y k l) t =
    let u = post-limits ρ (p1b r b n x y k l) t in
    let a : height_of x ≤ 16 = search (leb→le, and_l, and_r) depth 9 in
    let d : length (pairs_of k l) ≤ 16 = search (leb→le, and_l, and_r) depth 9 in
    (omega arith, d)
small_post ρ (p2av r b n v) t = tt
small_post ρ (p2b r b n v) t = tt
small_post ρ other t = tt

-- no mval, and no pairs
alone : (t v : ℕ) → leb v t ≡ (leb v t && leb 0 t) && true
alone t v = go (leb v t) (leb 0 t) (le-leb 0 t (omega arith))
  where
    go : (b c : Bool) → c ≡ true → b ≡ (b && c) && true
    go true c e = sym (rw e)
    go false c e = refl

-- a message as it is stored: each non-zero tube is on intake where its own tube, its mval and its pairs' tubes are
stored_tubes : (t : ℕ) (x : Msg) → (stored x).count ≤ 16
    → scanned t x ≡ (leb (stored x).tube t && leb (stored x).mval t) && all (passes (Scanned t)) (pairs_of (stored x).count (stored x).pairs)
unfolding stored scanned
stored_tubes t (m1a r b) h = rw (le-leb 0 t (omega arith))
stored_tubes t (m1b r b n x y l) h = rw (le-leb 0 t (omega arith), pairs_back l 32 (omega (arith, h)))
stored_tubes t (m1c r b v) h = alone t v
stored_tubes t (m2av r b n v) h = alone t v
stored_tubes t (m2b r b n v) h = alone t v

pub own_tubes : (t : ℕ) (k : Message) → Own k → k.count ≤ 16 → scanned t (meaning k) ≡ (leb k.tube t && leb k.mval t) && all (passes (Scanned t)) (pairs_of k.count k.pairs)
own_tubes t k o h = stored_tubes t (meaning k) (rw o h) ∙ ap (λ (k : Message). (leb k.tube t && leb k.mval t) && all (passes (Scanned t)) (pairs_of k.count k.pairs)) o

-- the message of a post within limits
module _ (m : Memory) (p : Post) {k : Message} (e : (post_in (room_of m.house) p ≡ true) × (k ≡ stored (posted p))) where
  pub small : Small (posted p)
  small = small_post (room_of m.house) p (rw e.0 tt)

  pub own : Own k
  own = own-stored (posted p) k small e.1

  pub few : k.count ≤ 16
  unfolding stored
  few = omega (arith, ap (λ (t : Message). t.count) e.1, few_post p small)
    where
      few_post : (p : Post) → Small (posted p) → (stored (posted p)).count ≤ 16
      few_post (p1b r b n x y k l) s = s.1
      few_post (p2av r b n v) s = omega arith
      few_post (p2b r b n v) s = omega arith
      few_post other s = omega arith

  pub tubes_means : {z : Bool} → z ≡ scanned m.house.tubes (meaning k) → scanned m.house.tubes (posted p) ≡ z
  tubes_means f = sym (f ∙ ap (scanned m.house.tubes) (means_stored (posted p) k small e.1))

-- ---- an accepted post

poster-stored : (p : Post) → (stored (posted p)).node ≡ poster p
unfolding stored
poster-stored (p1b r b n x y k l) = refl
poster-stored (p2av r b n v) = refl
poster-stored (p2b r b n v) = refl
poster-stored other = refl

-- it passed the tests, so it has a message
module _ (m : Memory) (w : Whole m) (p : Post) (y : reply m (foreign p) ≡ 0) where
  past : Passed m (foreign p)
  past = passed m (foreign p) w.typed y

  pub inside : post_in (room_of m.house) p ≡ true
  unfolding fields
  inside = holds _ past.fields

  sends : Sendable m (posted p)
  sends = ready m (foreign p) past

  module _ {k : Message} (e : k ≡ stored (posted p)) where
    pub may_post : Postable m.house m.board k
    may_post = postable m (posted p) k e past.size past.form sends

    -- its node has a bit
    pub low : k.node < 8
    unfolding fields
    low = omega (arith, ap (λ (t : Message). t.node) e ∙ poster-stored p, poster_in (room_of m.house) p past.fields, (bounds m w).nodes)

    -- the message posted and its node marked is what the rules leave
    pub left : {h h' : House} {s : List ℕ} → Posted m.house m.board k h s → h' ≡ marked h k.node → memory h' s m.cells m.heard ≡ after m (foreign p)
    unfolding write
    left {h} {h'} {s} f g =
        ap (λ (x : House). memory x s m.cells m.heard) (g ∙ ap (marked h) (ap (λ (t : Message). t.node) e ∙ poster-stored p))
        ∙ ap (λ (w : Memory). memory (marked w.house (poster p)) w.board w.cells w.heard) (acts.posted m (posted p) k e sends.small f)
        ∙ sym (done m (foreign p) y)
