-- The packets of a run that `join` leaves out, by their class in a report of the run. Lists have the latest first.
use Rattle.std.specs.Prelude.{◌≡◌, ℕ, List, [], ◌∷◌, ◌+◌, ◌==◌, ◌&&◌, not, length, Bool, false, Option, None, Some, ⊤}
use Rattle.std.specs.Prelude.{is_some, if◌then◌else◌}
use Rattle.cap_class.specs.Taken.{Taken, Classification, plain, datagram, fragment, classify, events_of}
use Rattle.cap_class.specs.declared.classes.Class.TheVariants as class
use Rattle.cap_ip.specs.Transport.{transport_of}
use Rattle.cap_join.specs.Fragments.{Piece}
use Rattle.cap_class.specs.Counting.{counts_of, is_class}
use Rattle.cap_class.specs.Classes.{class_of, classes}
use Rattle.cap_write.specs.Joined.{completed, group_after}
use Rattle.cap_write.specs.declared.left_out.LeftOut.{LeftOut}

-- whether a packet is a whole datagram that a report counts although some of its data was not captured
abbrev pub is_truncated : Classification → Bool
is_truncated (plain c) = false
is_truncated (datagram header captured) =
    is_class class.Counted (class_of (transport_of header.key.protocol captured header.data_length))
    && not (length captured == header.data_length)
is_truncated (fragment p) = false

-- how many such packets there are
abbrev pub truncated_in : List Taken → ℕ
truncated_in [] = 0
truncated_in (x ∷ xs) = (if is_truncated (classify (length xs) x) then 1 else 0) + truncated_in xs

-- What is left out of some packets: those of each class but the counted ones, and of these the truncated datagrams.
unfoldable pub left_out_of : List Taken → LeftOut
left_out_of xs = record { classes = counts_of (classes xs); truncated = truncated_in xs }

-- this is what was counted of some packets, if they are counted
abbrev pub CountsLeftOut : Option LeftOut → List Taken → Type 0
CountsLeftOut None xs = ⊤
CountsLeftOut (Some left) xs = left ≡ left_out_of xs

-- how many packets a written datagram came in: one, or as many as its fragments
abbrev pub packets_carried : Classification → (Piece → List Piece) → ℕ
packets_carried (plain c) group = 0
packets_carried (datagram header captured) group = 1
packets_carried (fragment p) group = length (group p)

-- how many packets all written datagrams came in
abbrev pub carried_in : List Taken → ℕ
carried_in [] = 0
carried_in (x ∷ xs) =
    (if is_some (completed (length xs) (events_of xs) x.clock x.meta x.frame)
    then packets_carried (classify (length xs) x) (group_after x.clock (events_of xs)) else 0) + carried_in xs

-- Each packet is left out or in a written datagram: the counted packets are those of written datagrams, and the
-- truncated ones.
abbrev pub LeftOutLaw : Type 0
LeftOutLaw = (xs : List Taken) → (left_out_of xs).classes.counted ≡ carried_in xs + truncated_in xs
