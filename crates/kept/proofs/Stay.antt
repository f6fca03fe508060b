-- Past the gate once, past it after every call; and what no call changes.
use mathlib.Core.Path.{◌≡◌, refl, ap, sym, subst, ◌∙◌}
use mathlib.Core.Bool.{Bool, true, false}
use mathlib.Core.List.{List}
use Prim.Native.Nat.{ℕ, suc, ◌+◌, ◌*◌, ◌/◌, ◌%◌, ◌^◌, ◌≤◌}
use native.Mathlib.Omega.{arith}
use borrow.Author.Tests.{eqb-true, eqb-false, eq-eqb, ne_eqb}
use lib.Bits.{bit_or}
use lib.Dec.{T, eqb, leb→le, le→leb}
use lib.ListN.{length, get_or, set, length-set}
use Rattle.rules.specs.Words.{Msg, Room}
use Rattle.rules.specs.Lent.{Memory, encode, stored_cell, place, set_bit, house, marked, room_of, read, Typed, counts, long, in_form}
use Rattle.rules.specs.declared.House.{House}
use Rattle.rules.specs.Steps.{Call, Effect, stays, scans, sends, acts, hears, posts, effect, put, post, write_cell, write}
use Rattle.rules.specs.Replies.{reply, change, after}
use Rattle.rules.proofs.Sound.{and_l, and_r, and_two}
use Rattle.rules.proofs.Area.{length-patch}
use Rattle.rules.proofs.Codec.{At, place_in}
use Rattle.rules.proofs.Forms.{long-cell}
use Rattle.rules.proofs.Spare.{room-post}
use Rattle.kept.specs.Kept.{Whole}
use Rattle.kept.proofs.Sim.{Sized, Sendable, Ready, added, entered, post_by, scan_by, added-long, post_sized, sim}
use Rattle.kept.proofs.Ready.{Form, passed, ready}
use Rattle.kept.proofs.Good.{accepted_form}

-- ---- a call that is refused, and one that is not

pub refused : (m : Memory) (c : Call) → ¬ (reply m c ≡ 0) → after m c ≡ m
unfolding after change write
refused m c n = rw (ne_eqb (reply m c) 0 n)

pub done : (m : Memory) (c : Call) → reply m c ≡ 0 → after m c ≡ write m (effect (read m) c)
unfolding after change
done m c e = rw (eq-eqb (reply m c) 0 e)

-- what holds of memory as it was, and of memory with the effect of an accepted call, holds of what the call leaves
pub after_by : (P : Memory → Type 0) (m : Memory) (c : Call) → P m → (reply m c ≡ 0 → P (write m (effect (read m) c))) → P (after m c)
after_by P m c f g = go (eqb (reply m c) 0) refl
  where
    go : (b : Bool) → eqb (reply m c) 0 ≡ b → P (after m c)
    go true e = let k = eqb-true (reply m c) 0 e in subst P (sym (done m c k)) (g k)
    go false e = subst P (sym (refused m c (eqb-false (reply m c) 0 e))) f

-- an accepted call does to memory what it does in the room
pub obeyed : (m : Memory) (c : Call) → Typed m.house → reply m c ≡ 0 → read (after m c) ≡ put (read m) (effect (read m) c)
obeyed m c t e = let p = passed m c t e in ap read (done m c e) ∙ sim m (effect (read m) c) p.size (ready m c p)

-- ---- the room and the arrays

abbrev Same : Memory → Memory → Type 0
Same m n = room_of n.house ≡ room_of m.house

room-write : (m : Memory) (e : Effect) → Same m (write m e)
unfolding write
room-write m stays = refl
room-write m (scans a b) = scan_by (Same m) m a b refl (λ e. refl)
room-write m (sends x) = room-post m x
room-write m (acts x r n c) = room-post m x
room-write m (hears n k) = refl
room-write m (posts x n) = room-post m x

pub same_room : (m : Memory) (c : Call) → room_of (after m c).house ≡ room_of m.house
same_room m c = after_by (Same m) m c refl (λ e. room-write m (effect (read m) c))

abbrev Arrays : Memory → Type 0
Arrays m = Typed m.house

typed_post : (m : Memory) (x : Msg) → Arrays m → Arrays (post m x)
typed_post m x t = post_by Arrays m x t (λ e. record { stations = t.stations; serials = t.serials })

typed_write : (m : Memory) (e : Effect) → Arrays m → Arrays (write m e)
unfolding write
typed_write m stays t = t
typed_write m (scans a b) t = scan_by Arrays m a b t (λ e. record {
  stations = length-set m.house.stations m.house.tubes a ∙ t.stations;
  serials = length-set m.house.serials m.house.tubes b ∙ t.serials;
})
typed_write m (sends x) t = typed_post m x t
typed_write m (acts x r n c) t = typed_post m x t
typed_write m (hears n k) t = t
typed_write m (posts x n) t = let u = typed_post m x t in record { stations = u.stations; serials = u.serials }

pub stays_typed : (m : Memory) (c : Call) → Typed m.house → Typed (after m c).house
stays_typed m c t = after_by Arrays m c t (λ e. typed_write m (effect (read m) c) t)

-- ---- counts and lengths

counts_with : (h : House) (n k t : ℕ) (a b : List ℕ) → T (counts h) → n ≤ h.capacity → t ≤ 64 → T (counts (house h n k t a b))
unfolding counts
counts_with h n k t a b p q r =
    let u = le→leb t 64 r in
    let v = le→leb n h.capacity q in
    search (and_two, and_l, and_r, p, u, v) depth 12

tubes_in : (h : House) → T (counts h) → h.tubes ≤ 64
unfolding counts
tubes_in h p = search (leb→le, and_l, and_r) depth 9

-- the same lengths under the same counts
long_with : (m n : Memory) → n.house.capacity ≡ m.house.capacity → n.house.nodes ≡ m.house.nodes → n.house.rows ≡ m.house.rows
    → length n.board ≡ length m.board → length n.cells ≡ length m.cells → length n.heard ≡ length m.heard → T (long m) → T (long n)
unfolding long
long_with m n a b c d e f t = rw (a, b, c, d, e, f) t

record Gated (m : Memory) : Type 0 where
  pub counts : T (counts m.house)
  pub long : T (long m)

post_gated : (m : Memory) (x : Msg) → Sized m → Sendable m x → Gated m → Gated (post m x)
post_gated m x z s g = post_by Gated m x g (λ e. let h = s.place e in record {
  counts = counts_with m.house (suc m.house.count) m.house.marks m.house.tubes m.house.stations m.house.serials g.counts (omega arith) (tubes_in m.house g.counts);
  long = long_with m (added m x) refl refl refl (added-long m z x s e) refl refl g.long;
})

write_gated : (m : Memory) (e : Effect) → Sized m → Ready m e → Gated m → Gated (write m e)
unfolding write
write_gated m stays z r g = g
write_gated m (scans a b) z r g = scan_by Gated m a b g (λ e. let h = r e in record {
  counts = counts_with m.house m.house.count m.house.marks (suc m.house.tubes) (set m.house.stations m.house.tubes a) (set m.house.serials m.house.tubes b) g.counts z.count (omega arith);
  long = long_with m (entered m a b) refl refl refl refl refl refl g.long;
})
write_gated m (sends x) z r g = post_gated m x z r g
write_gated m (acts x q n c) z r g =
    let p = post m x in
    let h = post_gated m x z r.0 g in
    let y = post_sized m z x r.0 in
    let a = subst (λ (ρ : Room). At ρ q n) (sym (room-post m x)) r.1.0 in
    let k = place_in p.house.nodes p.house.rows q n a.low a.high a.node in
    let l = long-cell c in record {
      counts = h.counts;
      long = long_with p (write_cell p q n c) refl refl refl refl (length-patch p.cells (encode (stored_cell c)) (36 * place p.house.rows q n) (omega (arith, y.cells))) refl h.long;
    }
write_gated m (hears n k) z r g = record {
  counts = g.counts;
  long = long_with m (record { house = m.house; board = m.board; cells = m.cells; heard = set_bit m.heard n k }) refl refl refl refl refl (length-set m.heard (128 * n + k / 8) (bit_or (get_or m.heard (128 * n + k / 8) 0) (2 ^ (k % 8)))) g.long;
}
write_gated m (posts x n) z r g =
    let p = post m x in
    let h = post_gated m x z r g in
    let y = post_sized m z x r in record {
      counts = counts_with p.house p.house.count (bit_or p.house.marks (2 ^ n)) p.house.tubes p.house.stations p.house.serials h.counts y.count (tubes_in p.house h.counts);
      long = long_with p (record { house = marked p.house n; board = p.board; cells = p.cells; heard = p.heard }) refl refl refl refl refl refl h.long;
    }

-- ---- all of it

pub in_form_whole : (m : Memory) → Form m → T (in_form m)
unfolding in_form
in_form_whole m f = search (and_two, f.house, f.board, f.cells, f.heard) depth 9

pub stays_whole : (m : Memory) (c : Call) → Whole m → Whole (after m c)
stays_whole m c w = after_by Whole m c w (λ e.
    let p = passed m c w.typed e in
    let k = effect (read m) c in
    let g = write_gated m k p.size (ready m c p) (record { counts = w.counts; long = w.long }) in
    record { typed = typed_write m k w.typed; counts = g.counts; long = g.long; form = in_form_whole (write m k) (accepted_form m c w.typed e) })
