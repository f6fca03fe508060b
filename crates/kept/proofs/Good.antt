-- What an accepted call sends and sets is within limits, so that every call keeps the form.
use mathlib.Core.Path.{◌≡◌, subst}
use mathlib.Core.Bool.{Bool, ◌&&◌}
use Prim.Native.Nat.{ℕ, ◌<◌}
use lib.Dec.{T, leb, ltb, ltb→lt}
use lib.ListN.{length}
use Rattle.rules.specs.Words.{bal_in, Msg, m1a, m1c, m2av, m2b, Room}
use Rattle.rules.specs.Lent.{Memory, room_of, row_in, read, Typed, limits, scanned, good_msg}
use Rattle.rules.specs.Steps.{Post, p1b, p2av, p2b, other, Call, scan, c1a, c1b, c1c, c2av, c2b, hear, foreign, ask, book, without, told, posted, poster, effect, write}
use Rattle.rules.specs.Replies.{post_in, fields, tubes, reply}
use Rattle.rules.proofs.Sound.{and_l, and_r, and_two}
use Rattle.kept.proofs.Ready.{Form, Passed, passed, cell_good, length_intake, at_row, at_2, post-limits, ready}
use Rattle.kept.proofs.Lists.{all_last}
use Rattle.kept.proofs.Cells.{On, CellOk, parts, whole, all_without, up, pairs_2av}
use Rattle.kept.proofs.Keep.{Good, kept}

module _ (m : Memory) where
  abbrev ρ : Room
  ρ = room_of m.house

  abbrev k : ℕ
  k = m.house.tubes

  -- on intake: as many scans as tubes
  on : (p : ℕ → Bool) → T (p (length (read m).intake)) → T (p k)
  on p = subst (λ (n : ℕ). T (p n)) (length_intake m)

  good_of : (x : Msg) → T (limits ρ x) → T (scanned (length (read m).intake) x) → T (good_msg ρ k x)
  unfolding good_msg
  good_of x p q = and_two (limits ρ x) (scanned k x) p (on (λ n. scanned n x) q)

  good_told : (r n b : ℕ) → T ((row_in ρ r && bal_in b) && ltb n ρ.nodes) → CellOk k ((read m).cells r n) → T (good_msg ρ k (told (read m) r n b))
  unfolding good_msg limits scanned
  good_told r n b t p = search (and_two, and_l, and_r, t, p.vbal, p.val, p.tube, p.pairs, p.on) depth 9

-- a foreign post is under a node of the room
pub poster_in : (ρ : Room) (p : Post) → T (post_in ρ p) → poster p < ρ.nodes
unfolding limits
poster_in ρ (p1b r b n x y k l) t = let u = post-limits ρ (p1b r b n x y k l) t in search (ltb→lt, and_l, and_r) depth 9
poster_in ρ (p2av r b n v) t = search (ltb→lt, and_l, and_r) depth 9
poster_in ρ (p2b r b n v) t = search (ltb→lt, and_l, and_r) depth 9
poster_in ρ other t = absurd t

pub good : (m : Memory) (c : Call) → Passed m c → Good m (effect (read m) c)
unfolding fields limits tubes scanned
good m (scan a b) p = tt
good m (c1a r b) p = good_of m (m1a r b) p.fields tt
good m (c1b r n b) p =
    let q = parts m.house.tubes ((read m).cells r n) (cell_good m r n p.form (ready m (c1b r n b) p).1.0) in
    let a = at_row (room_of m.house) r n b p.fields in
    (good_told m r n b p.fields q, whole m.house.tubes _ (record { bal = up b a.1; vbal = q.vbal; val = q.val; tube = q.tube; pairs = q.pairs; on = q.on }))
good m (c1c r b v) p = good_of m (m1c r b v) p.fields p.tubes
good m (c2av r n b v) p =
    let q = parts m.house.tubes ((read m).cells r n) (cell_good m r n p.form (ready m (c2av r n b v) p).1.0) in
    let a = at_2 (room_of m.house) r n b v p.fields in
    let l = ((read m).cells r n).pairs in (
      good_of m (m2av r b n v) p.fields p.tubes,
      whole m.house.tubes _ (record {
        bal = up b a.1;
        vbal = q.vbal;
        val = q.val;
        tube = q.tube;
        pairs = pairs_2av v b l q.pairs a.2 a.1 p.needs.1.1.0 (ltb→lt (length (without v l)) 16 p.needs.1.1.1.1.0);
        on = all_last (On m.house.tubes) (without v l) (v, b) (all_without (On m.house.tubes) v l q.on) (on m (λ n. leb v n) p.tubes);
      }),
    )
good m (c2b r n b v) p =
    let q = parts m.house.tubes ((read m).cells r n) (cell_good m r n p.form (ready m (c2b r n b v) p).1.0) in
    let a = at_2 (room_of m.house) r n b v p.fields in
    (good_of m (m2b r b n v) p.fields p.tubes, whole m.house.tubes _ (record { bal = up b a.1; vbal = up b a.1; val = and_r (leb 1 v) (leb v 64) a.2; tube = on m (λ n. leb v n) p.tubes; pairs = q.pairs; on = q.on }))
good m (hear n k) p = p.needs.0
good m (foreign p) q = (good_of m (posted p) (post-limits (room_of m.house) p q.fields) q.tubes, poster_in (room_of m.house) p q.fields)
good m (ask r) p = tt
good m (book p q) r = tt

-- an accepted call keeps the form
pub accepted_form : (m : Memory) (c : Call) → Typed m.house → reply m c ≡ 0 → Form (write m (effect (read m) c))
accepted_form m c t e = let p = passed m c t e in kept m (effect (read m) c) p.size p.form (ready m c p) (good m c p)
