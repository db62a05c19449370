-- What `join` writes is what the report counts.
use Rattle.std.proofs.Common.{◌≡◌, ℕ, Bool, true, false, ◌&&◌, List, [], ◌∷◌, length, refl, arith, Option, Some, None}
use Rattle.std.specs.Prelude.{◌==◌, if◌then◌else◌, is_some, option_map, option_and_then}
use Rattle.cap_ip.specs.Header.{HeaderFields}
use Rattle.cap_ip.specs.Transport.{transport_of}
use Rattle.cap_ip.specs.declared.transports.Transport.{Transport}
use Rattle.cap_ip.specs.declared.transports.Transport.TheVariants as transports
use Rattle.cap_join.specs.Frames.{first_frame, last_frame, pieces_original}
use Rattle.cap_join.specs.ByteMap.{completes, joined_header, joined_data}
use Rattle.cap_join.specs.Completed.{if_complete}
use Rattle.cap_join.specs.Fragments.{Piece}
use Rattle.cap_join.specs.History.{Event, joined_pieces, open_groups_after}
use Rattle.cap_join.specs.Joiners.{open_limit}
use Rattle.cap_join.specs.declared.datagrams.Stamped.{Stamped}
use Rattle.cap_time.specs.declared.stamps.Stamp.{Stamp}
use Rattle.cap_talks.specs.table.CountedUnits.{first_unit, group_unit, unit_at, unit_by, unit_of, timed_frame}
use Rattle.cap_class.specs.Taken.{Classification, plain, datagram, fragment, classify, events_of, stamped_of}
use Rattle.cap_talks.specs.table.Units.{ends_of}
use Rattle.cap_talks.specs.declared.table.units.Address.{Address}
use Rattle.cap_talks.specs.declared.table.units.Address.TheVariants.{Ipv4}
use Rattle.cap_talks.specs.declared.table.units.Endpoint.{Endpoint}
use Rattle.cap_write.specs.Joined.{complete_of, completed, datagram_of, events_after, group_after, has_form, joined_of}
use Rattle.cap_laws.specs.JoinedUnits.{has_all_data, JoinedUnits}

form-ends : {A : Type 0} (f : Endpoint × Endpoint → A) (a b : Address) (t : Transport)
    → is_some (option_map f (ends_of a b t)) ≡ has_form t
form-ends f a b (transports.Ports x y) = refl
form-ends f a b transports.NoPorts = refl
form-ends f a b transports.Bad = refl
form-ends f a b transports.Cut = refl

some-if : {A : Type 0} (b : Bool) (x : A) → is_some (if b then Some x else None) ≡ b
some-if true x = refl
some-if false x = refl

whole-some : (h : HeaderFields) (b : List ℕ) (n : ℕ)
    → is_some (complete_of h b n) ≡ ((length b == n) && has_form (transport_of h.key.protocol b n))
unfolding complete_of
whole-some h b n = some-if ((length b == n) && has_form (transport_of h.key.protocol b n)) _

group-some : (ps : List Piece) (o : Option HeaderFields)
    → is_some (option_and_then (λ h. complete_of h (joined_data ps) (length (joined_data ps))) o)
    ≡ is_some (option_and_then
    (λ h. option_map (unit_of h.key.protocol (length ps) (pieces_original ps) (timed_frame (first_frame ps))
    (timed_frame (last_frame ps))) (ends_of (Ipv4 h.key.source) (Ipv4 h.key.destination)
    (transport_of h.key.protocol (joined_data ps) (length (joined_data ps))))) o)
group-some ps None = refl
group-some ps (Some h) = grind (arith, whole-some, form-ends)

joined-by : (ps : List Piece) (b : Bool)
    → is_some (if b then option_and_then (λ h. complete_of h (joined_data ps) (length (joined_data ps)))
    (joined_header ps) else None) ≡ is_some (first_unit (if b then ps ∷ [] else []))
unfolding group_unit
joined-by ps true = group-some ps (joined_header ps)
joined-by ps false = refl

some-joined : (ps : List Piece) → is_some (joined_of ps) ≡ is_some (first_unit (if_complete ps))
unfolding joined_of
some-joined ps = joined-by ps (completes ps)

-- the datagram that a packet completes counts, if all of its data was captured
by-classify : (clock : Option Stamp) (s : Stamped) (es : List Event) (l : Classification)
    → is_some (datagram_of l (group_after clock es)) ≡ (has_all_data l && is_some (unit_by l s clock es))
by-classify clock s es (plain c) = refl
by-classify clock s es (datagram h b) = grind (arith, whole-some, form-ends)
by-classify clock s es (fragment p) = some-joined (joined_pieces clock p (open_groups_after open_limit es))

pub joined-units : JoinedUnits
unfolding completed events_after events_of unit_at
joined-units xs x =
    record {
      written = by-classify x.clock (stamped_of (length xs) x.meta) (events_of xs) (classify (length xs) x);
      events = refl;
    }
