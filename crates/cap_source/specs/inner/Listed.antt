-- Packets without bytes in memory, as a feed, and why it is a lawful one.
use Rattle.std.proofs.Common.{◌≡◌, ◌≤◌, ◌+◌, ◌-◌, ◌^◌, ℕ, false, true, List, [], ◌∷◌, length, drop, Option, Some, None}
use Rattle.std.proofs.Common.{refl, sym, subst, arith, length-drop}
use Rattle.std.proofs.lemmas.Bool.Decides.{nat_tests}
use Rattle.std.specs.Option.{ForSome}
use Rattle.cap_bytes.specs.declared.faults.Rule.{Rule}
use Rattle.cap_source.specs.Feed.{Feed, Item, packet, refused, HasFile, IsFeed}
use Rattle.cap_source.specs.Items.{no_kinds}
use Rattle.cap_source.specs.declared.feeds.Head.{Head}
use Rattle.cap_source.specs.declared.feeds.Head.TheVariants as heads
use Rattle.cap_bytes.specs.declared.formats.Format.TheVariants.{Pcap}
use Rattle.cap_source.specs.declared.packets.Meta.{Meta}
use Rattle.cap_time.specs.declared.resolutions.Interface.{Interface}

-- what is known of the packet at that place of a list
abbrev pub listed_meta : ℕ → Interface → ℕ → ℕ → Meta
listed_meta file interface place units =
    record {
      file = file;
      offset = place;
      format = Pcap;
      skipped = 0;
      instance = 0;
      interface = interface;
      units = Some units;
      captured = 0;
      original = 0;
    }

-- what comes next there, by the times to come
abbrev pub head_at : ℕ → Interface → Option Rule → ℕ → List ℕ → Head
head_at file interface end place (units ∷ later) = heads.Packet (listed_meta file interface place units)
head_at file interface None place [] = heads.End
head_at file interface (Some rule) place [] = heads.Refused (record { file = file; offset = place; rule = rule })

-- the items from there on
abbrev pub listed_items : ℕ → Interface → Option Rule → ℕ → List ℕ → List Item
listed_items file interface end place (units ∷ later) =
    packet (listed_meta file interface place units) [] ∷ listed_items file interface end (place + 1) later
listed_items file interface None place [] = []
listed_items file interface (Some rule) place [] = refused (record { file = file; offset = place; rule = rule }) ∷ []

-- the list from that place on as a feed, by the times to come and what is known to come next
abbrev pub list_feed : ℕ → Interface → Option Rule → ℕ → List ℕ → Option Head → Feed
list_feed file interface end place times known =
    record {
      files = file ∷ [];
      told = true;
      items = listed_items file interface end place times;
      endings = λ f. record {
        ending = record { format = Pcap; skipped = 0; cut = None };
        interfaces = 1;
        named = 0;
        kinds = no_kinds;
        comments = None;
      };
      known = known;
      frame = [];
      broken = None;
      places = λ f. place;
      left = 2 ^ 40 - place;
      can_fail = λ f. false;
      held = record { window = 0; interfaces = 0; failed = false };
    }

has_file : (file : ℕ) → HasFile (file ∷ []) file
has_file file = grind (arith, nat_tests)

-- once what comes next is known
head_lawful : (file : ℕ) (interface : Interface) (end : Option Rule) (place : ℕ) (times : List ℕ)
    → place + length times ≤ 2 ^ 40
    → IsFeed (list_feed file interface end place times (Some (head_at file interface end place times)))
head_lawful file interface end place (units ∷ later) most = record {
  leads = λ t. refl;
  packet = record {
    file = has_file file;
    captured = refl;
    limit = omega arith;
    place = omega arith;
    offset = omega (arith, most);
    left = omega (arith, most);
  };
  refusal = tt;
  whole = refl;
  most = omega arith;
  window = omega arith;
  interfaces = omega arith;
}
head_lawful file interface None place [] most = record {
  leads = λ t. refl;
  packet = tt;
  refusal = tt;
  whole = refl;
  most = omega arith;
  window = omega arith;
  interfaces = omega arith;
}
head_lawful file interface (Some rule) place [] most = record {
  leads = λ t. refl;
  packet = tt;
  refusal = has_file file;
  whole = refl;
  most = omega arith;
  window = omega arith;
  interfaces = omega arith;
}

pub lists_lawful : (file : ℕ) (interface : Interface) (end : Option Rule) (place : ℕ) (times : List ℕ)
    (known : Option Head)
    → length times ≤ 2 ^ 40 → place ≤ length times
    → ForSome known (λ head. head ≡ head_at file interface end place (drop place times))
    → IsFeed (list_feed file interface end place (drop place times) known)
lists_lawful file interface end place times None most within is = record {
  leads = λ t. tt;
  packet = tt;
  refusal = tt;
  whole = tt;
  most = omega arith;
  window = omega arith;
  interfaces = omega arith;
}
lists_lawful file interface end place times (Some head) most within is =
    subst (λ h. IsFeed (list_feed file interface end place (drop place times) (Some h))) (sym (is head refl))
    (head_lawful file interface end place (drop place times) (omega (arith, most, within, length-drop place times)))
