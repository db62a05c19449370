-- How many packets of each class there are.
use Rattle.std.specs.Prelude.{◌≡◌, ℕ, List, [], ◌∷◌, Bool, ◌+◌, ◌-◌, ◌==◌, length, if◌then◌else◌}
use Rattle.cap_class.specs.Classes.{classes}
use Rattle.cap_class.specs.Taken.{Taken}
use Rattle.cap_class.specs.declared.classes.Class.{Class}
use Rattle.cap_class.specs.declared.classes.Class.TheVariants as class
use Rattle.cap_class.specs.declared.counts.ClassCounts.{ClassCounts}

-- the classes as they are printed
abbrev pub rank : Class → ℕ
rank class.OtherLink = 0
rank class.NotIpv4 = 1
rank class.Short = 2
rank class.Cut = 3
rank class.Bad = 4
rank class.Unjoined = 5
rank class.Counted = 6

abbrev pub is_class : Class → Class → Bool
is_class a b = rank a == rank b

abbrev pub times : Class → List Class → ℕ
times c [] = 0
times c (k ∷ ks) = (if is_class c k then 1 else 0) + times c ks

-- how many packets of each class there are
abbrev pub counts_of : List Class → ClassCounts
counts_of cs =
    record {
      other_link = times class.OtherLink cs;
      not_ipv4 = times class.NotIpv4 cs;
      short = times class.Short cs;
      cut = times class.Cut cs;
      bad = times class.Bad cs;
      unjoined = times class.Unjoined cs;
      counted = times class.Counted cs;
    }

abbrev pub sum_of : ClassCounts → ℕ
sum_of n = n.other_link + n.not_ipv4 + n.short + n.cut + n.bad + n.unjoined + n.counted

-- Each packet has one class, and the seven counts add up to the number of packets.
pub record OneClass (xs : List Taken) : Type 0 where
  pub each : length (classes xs) ≡ length xs
  pub sum : sum_of (counts_of (classes xs)) ≡ length xs

-- n more packets of a class
abbrev pub with_frames : Class → ℕ → ClassCounts → ClassCounts
with_frames class.OtherLink n counts = record counts { other_link = counts.other_link + n }
with_frames class.NotIpv4 n counts = record counts { not_ipv4 = counts.not_ipv4 + n }
with_frames class.Short n counts = record counts { short = counts.short + n }
with_frames class.Cut n counts = record counts { cut = counts.cut + n }
with_frames class.Bad n counts = record counts { bad = counts.bad + n }
with_frames class.Unjoined n counts = record counts { unjoined = counts.unjoined + n }
with_frames class.Counted n counts = record counts { counted = counts.counted + n }

-- the counts after a packet completes a group of n fragments, itself one of them: they move from the unjoined ones to a
-- class
abbrev pub with_group : Class → ℕ → ClassCounts → ClassCounts
with_group c n counts = with_frames c n (record counts { unjoined = counts.unjoined + 1 - n })
