-- The packets of a feed, counted one by one.
use Rattle.std.proofs.Common.{◌≡◌, ◌≤◌, ◌<◌, ◌+◌, ◌*◌, ◌^◌, ℕ, cond, nat_lt, List, [], ◌∷◌, ◌++◌, drop, sym, ap, ◌∙◌}
use Rattle.std.proofs.Common.{arith, Some, None, IsTrue, Ok, Err, append-nil, append_assoc, true, false}
use Rattle.cap_bytes.specs.declared.faults.Fault.{Fault}
use Rattle.cap_talks.proofs.Counting.{counted-more}
use Rattle.cap_talks.specs.counts.Counting.{packets_of, counted, with_packet}
use Rattle.cap_talks.specs.declared.counts.counts.Counts.{Counts}
use Rattle.cap_source.proofs.Onward.{Went, Went-none, Went-more}
use Rattle.cap_source.proofs.Refusals.{refusal-next}
use Rattle.cap_source.specs.Feed.{Feed, Item, packet, FeedKeeps, FeedPasses, SameItems, FindsPacket, FindsItem, IsFeed}
use Rattle.cap_source.specs.Feed.{refusal_of}
use Rattle.cap_source.specs.inner.Walk.{GivesPacket, ShowsItem}
use Rattle.cap_source.specs.declared.feeds.Head.TheVariants as heads
use Rattle.cap_source.specs.declared.packets.Meta.{Meta}
use Rattle.cap_talks.specs.talks.Reading.{CountsAll}

-- The packets that were given by a feed, which was `old`, are counted.
pub record IsCounted (old new : Feed) (counts : Counts) : Type 0 where
  pub taken : List Meta
  pub counts_is : counts ≡ counted taken
  pub few : counts.packets + new.left ≤ 2 ^ 40
  pub sums : counts.bytes ≤ counts.packets * 2 ^ 32
  pub truncated : counts.truncated ≤ counts.packets
  pub went : Went old new
  pub files : new.files ≡ old.files
  pub told : IsTrue old.told → IsTrue new.told
  pub can_fail : (file : ℕ) → IsTrue (new.can_fail file) → IsTrue (old.can_fail file)
  pub packets : IsTrue old.told → packets_of old.items ≡ taken ++ packets_of new.items
  pub refusal : IsTrue old.told → refusal_of new.items ≡ refusal_of old.items
  pub endings : IsTrue old.told → (file : ℕ) → new.endings file ≡ old.endings file

pub counted-none : (feed : Feed) (counts : Counts) → feed.left ≤ 2 ^ 40 → counts ≡ counted []
    → IsCounted feed feed counts
unfolding counted
counted-none feed counts few is = grind (arith, Went-none)

packets-first : (meta : Meta) (frame : List ℕ) (items rest : List Item) → items ≡ packet meta frame ∷ rest
    → packets_of items ≡ meta ∷ packets_of rest
unfolding packets_of
packets-first meta frame items rest is = ap packets_of is

one_or_none : (captured original : ℕ) → cond (nat_lt captured original) 1 0 ≤ 1
one_or_none captured original = grind arith

-- one packet more is taken
pub counted-taken : (old mid shown new : Feed) (counts more : Counts) (meta : Meta) → IsCounted old mid counts
    → GivesPacket mid (Ok (Some meta)) shown → FeedKeeps mid shown
    → (IsTrue mid.told → ShowsItem mid (Ok (Some meta)) shown) → FeedKeeps shown new → FeedPasses shown new
    → (IsTrue shown.told → new.items ≡ drop 1 shown.items)
    → (IsTrue shown.told → (file : ℕ) → new.endings file ≡ shown.endings file)
    → meta.original < 2 ^ 32 → more ≡ with_packet counts meta → IsCounted old new more
counted-taken old mid shown new counts more meta c gives asked shows passed passes dropped ended few is =
    let rest : IsTrue old.told → new.items ≡ drop 1 mid.items =
    λ t. dropped (asked.told (c.told t)) ∙ ap (drop 1) (shows (c.told t)).0.items in
    record {
      taken = c.taken ++ meta ∷ [];
      counts_is = is ∙ ap (λ w. with_packet w meta) c.counts_is ∙ sym (counted-more c.taken meta);
      few = rw is (omega (arith, c.few, asked.left, passes.left));
      sums = rw is (omega (arith, c.sums, few));
      truncated = rw is (omega (arith, c.truncated, one_or_none meta.captured meta.original));
      went = Went-more old mid shown new meta c.went gives asked passes passed;
      files = passed.files ∙ asked.files ∙ c.files;
      told = λ t. passed.told (asked.told (c.told t));
      can_fail = λ file t. c.can_fail file (asked.can_fail file (passed.can_fail file t));
      packets = λ t.
          c.packets t ∙ ap (λ l. c.taken ++ l) (packets-first meta shown.frame mid.items (drop 1 mid.items)
          (shows (c.told t)).1)
          ∙ sym (append_assoc c.taken (meta ∷ []) (packets_of (drop 1 mid.items)))
          ∙ ap (λ l. (c.taken ++ meta ∷ []) ++ packets_of l) (sym (rest t));
      refusal = λ t.
          ap refusal_of (rest t)
          ∙ sym (refusal-next meta shown.frame mid.items (drop 1 mid.items) (shows (c.told t)).1) ∙ c.refusal t;
      endings = λ t file. ended (asked.told (c.told t)) file ∙ (shows (c.told t)).0.endings file ∙ c.endings t file;
    }

-- What a feed that was asked whether a packet comes next says of it: the packet that it lends, or the end, or a fault.
pub found-packet : (mid shown : Feed) (meta : Meta) → FindsPacket mid (Ok true) shown
    → shown.known ≡ Some (heads.Packet meta) → GivesPacket mid (Ok (Some meta)) shown
found-packet mid shown meta found lent = grind arith

pub found-item : (mid shown : Feed) (meta : Meta) → IsFeed shown → IsTrue shown.told → SameItems mid shown
    → shown.known ≡ Some (heads.Packet meta)
    → ShowsItem mid (Ok (Some meta)) shown
found-item mid shown meta f t same lent = grind arith

pub found-end : (mid shown : Feed) → IsFeed shown → IsTrue shown.told → SameItems mid shown
    → FindsPacket mid (Ok false) shown → ShowsItem mid (Ok None) shown
found-end mid shown f t same found = grind arith

pub found-fault : (fault : Fault) (mid shown : Feed) → IsFeed shown → IsTrue shown.told
    → FindsItem mid (Err fault) shown → FindsPacket mid (Err fault) shown
    → ShowsItem mid (Err fault) shown
found-fault fault mid shown f t items found = grind arith

-- the feed ends
pub counted-end : (old mid shown : Feed) (counts : Counts) → IsCounted old mid counts → IsTrue old.told
    → (IsTrue mid.told → ShowsItem mid (Ok None) shown) → CountsAll old (Ok counts) shown
unfolding packets_of refusal_of
counted-end old mid shown counts c t shows = grind (arith, counted, append-nil)

-- it faults
pub counted-fault : (fault : Fault) (old mid shown new : Feed) (counts : Counts) → IsCounted old mid counts
    → IsTrue old.told
    → (IsTrue mid.told → ShowsItem mid (Err fault) shown) → CountsAll old (Err fault) new
unfolding refusal_of
counted-fault fault old mid shown new counts c t shows = grind arith
