-- The first frame of a unit isn't later than its last one.
use Rattle.std.proofs.Common.{◌≡◌, ℕ, Bool, true, false, not, List, [], ◌∷◌, length, Option, Some, None, IfSome}
use Rattle.std.proofs.Common.{option_map, refl, sym, ap, ◌∙◌, subst, arith}
use Rattle.std.specs.Ordering.{is_lt}
use Rattle.cap_ip.specs.Header.{HeaderFields}
use Rattle.cap_ipv6.specs.Read.{Reading}
use Rattle.cap_join.specs.Fragments.{Piece}
use Rattle.cap_join.specs.Frames.{earlier_stamped, later_stamped, timed, first_frame, last_frame}
use Rattle.cap_join.specs.inner.Groups.{IsDatagramOf}
use Rattle.cap_join.specs.declared.datagrams.Datagram.{Datagram}
use Rattle.cap_join.specs.declared.datagrams.Stamped.{Stamped}
use Rattle.cap_talks.specs.table.Rows.{are_in_order, IsUnitInOrder}
use Rattle.cap_talks.specs.declared.table.units.Endpoint.{Endpoint}
use Rattle.cap_talks.specs.declared.table.units.TimedFrame.{TimedFrame}
use Rattle.cap_time.specs.Stamp.{stamp_cmp}
use Rattle.cap_time.specs.inner.StampLaws.{stamp_cmp_total}
use Rattle.cap_time.specs.declared.stamps.Stamp.{Stamp}
use Rattle.cap_time.proofs.Chosen.{not_trans}
use Rattle.cap_talks.specs.table.CountedUnits.{ipv6_unit, timed_frame, unit_of, whole_unit}
use Rattle.cap_talks.specs.inner.table.Adding.{datagram_unit}
use Rattle.cap_class.specs.Taken.{Taken}
use Rattle.cap_talks.specs.inner.table.Tallies.{TallyState, Joins, TallyStands}

by_ends : (protocol frames bytes : ℕ) (first last : Option TimedFrame) (ends : Option (Endpoint × Endpoint))
    → are_in_order first last ≡ true
    → (frames ≡ 1 → first ≡ last) → IfSome (option_map (unit_of protocol frames bytes first last) ends) IsUnitInOrder
by_ends protocol frames bytes first last None order one = tt
by_ends protocol frames bytes first last (Some ends) order one = record { order = order; one = one }

-- a whole datagram came in one frame
itself : (frame : Option TimedFrame) → are_in_order frame frame ≡ true
itself frame = grind (arith, stamp_cmp_total.antisymm)

pub whole-order : (header : HeaderFields) (captured : List ℕ) (stamped : Stamped)
    → IfSome (whole_unit header captured stamped) IsUnitInOrder
whole-order header captured stamped = by_ends _ _ _ _ _ _ (itself (timed_frame (Some stamped))) (λ one. refl)

pub ipv6-order : (r : Reading) (stamped : Stamped) → IfSome (ipv6_unit r stamped) IsUnitInOrder
ipv6-order (Reading.datagram header captured) stamped =
    by_ends _ _ _ _ _ _ (itself (timed_frame (Some stamped))) (λ one. refl)
ipv6-order (Reading.fragment f) stamped = tt
ipv6-order (Reading.bad why) stamped = tt
ipv6-order (Reading.cut why) stamped = tt

-- two frames that have times are there, the second not earlier than the first, or neither is
abbrev times_in_order : Option Stamp → Option Stamp → Bool
times_in_order None last = false
times_in_order (Some first) None = false
times_in_order (Some first) (Some last) = not (is_lt (stamp_cmp last first))

abbrev in_order : Option Stamped → Option Stamped → Bool
in_order None None = true
in_order None (Some last) = false
in_order (Some first) None = false
in_order (Some first) (Some last) = times_in_order first.time last.time

-- one frame more
order-more : (first last : Option Stamped) (frame : Stamped) → in_order first last ≡ true
    → in_order (earlier_stamped first (timed frame frame.time)) (later_stamped last (timed frame frame.time)) ≡ true
order-more first last frame order = grind (arith, not_trans, stamp_cmp_total, stamp_cmp_total.antisymm)

frames-order : (pieces : List Piece) → in_order (first_frame pieces) (last_frame pieces) ≡ true
frames-order [] = refl
frames-order (p ∷ pieces) = order-more (first_frame pieces) (last_frame pieces) p.stamped (frames-order pieces)

timed-order : (first last : Option Stamped) → in_order first last ≡ true
    → are_in_order (timed_frame first) (timed_frame last) ≡ true
timed-order first last order = grind arith

frames-one : (pieces : List Piece) → length pieces ≡ 1 → first_frame pieces ≡ last_frame pieces
frames-one (p ∷ []) one = grind arith
frames-one pieces one = grind arith

-- a joined datagram's frames are those of its fragments
pub joined-order : (d : Datagram) (pieces : List Piece) → IsDatagramOf d pieces → IfSome (datagram_unit d) IsUnitInOrder
unfolding datagram_unit
joined-order d pieces is =
    by_ends _ _ _ _ _ _ (grind (arith, frames-order, timed-order))
    (λ one. ap timed_frame (is.first ∙ frames-one pieces (sym is.frames ∙ one) ∙ sym is.last))

-- a datagram that waits
pub waiting-order : (t : TallyState) (d : Datagram) (xs : List Taken) (next : Option Taken) → t.waiting ≡ Some d
    → TallyStands t xs next → IfSome (datagram_unit d) IsUnitInOrder
waiting-order t d xs next is h =
    let joins = subst (λ (w : Option Datagram). Joins w t.joiner xs next) is h.joins in
    joined-order d _ joins.datagram
