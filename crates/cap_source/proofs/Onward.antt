-- Going through a feed: what it was at first, on the way, and where the call ends.
use Rattle.std.proofs.Common.{IsTrue, Some, None, Ok, Err, refl, sym, ◌∙◌, arith}
use Rattle.cap_bytes.specs.Printing.{IsReadFault}
use Rattle.cap_bytes.specs.declared.faults.Fault.{Fault}
use Rattle.cap_source.specs.Feed.{Feed, FeedKeeps, FeedGoes, FeedPasses}
use Rattle.cap_source.specs.inner.Walk.{GivesPacket, ShowsItem, SameEndings, WalkLasts, Walks}
use Rattle.cap_source.specs.declared.packets.Meta.{Meta}

-- What is true of a feed on the way: all that every answer keeps, and no read has failed.
pub record Went (old new : Feed) : Type 0 where
  pub keeps : FeedKeeps old new
  pub lasts : WalkLasts old new

pub Keeps-refl : (a : Feed) → FeedKeeps a a
Keeps-refl a = record {
  files = refl;
  told = λ t. t;
  can_fail = λ file c. c;
  places = λ file. omega arith;
  left =
      omega arith;
}

pub Keeps-trans : (a b c : Feed) → FeedKeeps a b → FeedKeeps b c → FeedKeeps a c
Keeps-trans a b c k l = grind arith

pub Lasts-refl : (a : Feed) → WalkLasts a a
Lasts-refl a = record { broken = refl; failed = refl }

pub Lasts-goes : (a b : Feed) → FeedGoes a b → WalkLasts a b
Lasts-goes a b g = record { broken = g.after ∙ sym g.before; failed = g.failed }

pub Lasts-trans : (a b c : Feed) → WalkLasts a b → WalkLasts b c → WalkLasts a c
Lasts-trans a b c k l = record { broken = l.broken ∙ k.broken; failed = l.failed ∙ k.failed }

pub Goes-behind : (a b c : Feed) → WalkLasts a b → FeedGoes b c → FeedGoes a c
Goes-behind a b c l g = record { before = sym l.broken ∙ g.before; after = g.after; failed = g.failed ∙ l.failed }

pub Went-none : (a : Feed) → Went a a
Went-none a = record { keeps = Keeps-refl a; lasts = Lasts-refl a }

-- one more packet
pub Went-more : (old mid shown new : Feed) (meta : Meta) → Went old mid → GivesPacket mid (Ok (Some meta)) shown
    → FeedKeeps mid shown
    → FeedPasses shown new → FeedKeeps shown new → Went old new
Went-more old mid shown new meta p gives asked passes passed = grind arith

-- the call for the next packet answers a fault
pub Walks-fault : (old mid new : Feed) (fault : Fault) → Went old mid → GivesPacket mid (Err fault) new
    → Walks {A = Unit {0}} old (Err fault) new
Walks-fault old mid new fault w p = grind arith

-- it answers that there is none
pub Walks-end : (old mid new : Feed) → Went old mid → GivesPacket mid (Ok None) new
    → Walks {A = Unit {0}} old (Ok tt) new
Walks-end old mid new w p = (p.known, Goes-behind old mid new w.lasts p.goes)

-- A packet that came isn't written.
pub Walks-stop : (old mid new : Feed) (meta : Meta) (fault : Fault) → Went old mid
    → GivesPacket mid (Ok (Some meta)) new
    → (IsReadFault {A = Unit {0}} (Err fault) → ⊥) → Walks {A = Unit {0}} old (Err fault) new
Walks-stop old mid new meta fault w p other = grind arith

-- how the files end, of a feed of which nothing was asked
pub Ends-none : (a : Feed) → IsTrue a.told → SameEndings a a
Ends-none a t file = refl

-- after one more packet
pub Ends-more : (old mid shown new : Feed) (meta : Meta) → (IsTrue old.told → SameEndings old mid) → FeedKeeps old mid
    → FeedKeeps mid shown
    → (IsTrue mid.told → ShowsItem mid (Ok (Some meta)) shown) → FeedPasses shown new → IsTrue old.told
    → SameEndings old new
Ends-more old mid shown new meta so went asked shows passed t file =
    passed.endings (asked.told (went.told t)) file ∙ ((shows (went.told t)).0.endings file ∙ so t file)

-- and at the end
pub Ends-end : (old mid shown : Feed) → (IsTrue old.told → SameEndings old mid) → FeedKeeps old mid
    → (IsTrue mid.told → ShowsItem mid (Ok None) shown) → IsTrue old.told → SameEndings old shown
Ends-end old mid shown so went shows t file = (shows (went.told t)).0.endings file ∙ so t file
