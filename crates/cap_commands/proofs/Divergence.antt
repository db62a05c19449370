-- Two feeds, compared packet by packet.
use Rattle.std.proofs.Common.{◌≡◌, ℕ, ◌+◌, ◌≤◌, List, ◌∷◌, drop, true, false, Bool, IsTrue, Option}
use Rattle.std.proofs.Common.{Some, None, Ok, Err, Result, refl, sym, ap, ◌∙◌, subst, arith}
use Rattle.std.proofs.lemmas.Bool.{false≢true}
use Rattle.std.specs.Prelude.{IsNone, IsOkUnless, ◌++◌, ◌&&◌, [], is_none}
use Rattle.cap_bytes.proofs.Putting.{Prints-head}
use Rattle.cap_bytes.specs.Device.{Puts}
use Rattle.cap_bytes.specs.Printing.{Prints}
use Rattle.cap_bytes.specs.declared.faults.Fault.{Fault}
use Rattle.cap_bytes.specs.declared.faults.Fault.TheVariants.{Refused, Read, Write, Memory}
use Rattle.cap_source.proofs.Onward.{Keeps-refl, Keeps-trans}
use Rattle.cap_source.specs.Feed.{Feed, FeedKeeps, FeedPasses, Item, packet}
use Rattle.cap_source.specs.ReadFaults.{FailsOf}
use Rattle.cap_source.specs.inner.Walk.{GivesPacket, SameEndings, ShowsItem}
use Rattle.cap_source.specs.declared.packets.Meta.{Meta}
use Rattle.cap_line.specs.declared.jobs.Ignored.{Ignored}
use Rattle.cap_bytes.specs.declared.faults.Tail.{Tail}
use Rattle.cap_bytes.specs.declared.stops.CutRest.{CutRest}
use Rattle.cap_talks.specs.talks.Telling.{Tells}
use Rattle.cap_source.specs.Items.{file_ending, file_items}
use Rattle.cap_source.specs.declared.feeds.FileEnd.{FileEnd}
use Rattle.cap_commands.specs.DiffText.{Comparison, TellsDiff, compared, comparison_of, cuts_of, diff_end}
use Rattle.cap_commands.specs.DiffText.{diff_refusal, diff_text_in, ended_rests, is_same, other_packet, same_packets}
use Rattle.cap_commands.specs.Left.{done_of}
use Rattle.cap_commands.specs.inner.DiffWalk.{FailsOne, Parts, are_alike, compared_of, ended_cut, parted}
use Rattle.cap_commands.specs.declared.diff.CutEnds.{CutEnds}
use Rattle.cap_commands.specs.declared.diff.DiffOptions.{DiffOptions}
use Rattle.cap_commands.specs.declared.diff.Divergence.{Divergence}

-- Of two feeds so many packets were passed, which are the same.
pub record Matched (ignored : Ignored) (a b c d : Feed) (n : ℕ) : Type 0 where
  pub number : n + c.left ≤ a.left
  pub first : FeedKeeps a c
  pub second : FeedKeeps b d
  pub ends_first : IsTrue a.told → SameEndings a c
  pub ends_second : IsTrue b.told → SameEndings b d
  pub same : IsTrue a.told → IsTrue b.told → compared ignored 0 a.items b.items ≡ compared ignored n c.items d.items

pub Matched-none : (ignored : Ignored) (a b : Feed) → Matched ignored a b a b 0
Matched-none ignored a b = record {
  number = omega arith;
  first = Keeps-refl a;
  second = Keeps-refl b;
  ends_first = λ t file. refl;
  ends_second = λ t file. refl;
  same = λ t u. refl;
}

-- two packets that are the same
compared-alike : (ignored : Ignored) (n : ℕ) (m o : Meta) (f g : List ℕ) (xs ys : List Item)
    → are_alike ignored (compared_of (Some m) f) (compared_of (Some o) g) ≡ true
    → compared ignored n (packet m f ∷ xs) (packet o g ∷ ys) ≡ compared ignored (n + 1) xs ys
unfolding compared
compared-alike ignored n m o f g xs ys h = grind arith

-- a packet and what isn't one, or isn't the same
compared-parted : (ignored : Ignored) (n : ℕ) (one other : Option Meta) (f g : List ℕ) (c d shown seen : Feed)
    → ShowsItem c (Ok one) shown → ShowsItem d (Ok other) seen → shown.frame ≡ f → seen.frame ≡ g
    → are_alike ignored (compared_of one f) (compared_of other g) ≡ false
    → compared ignored n c.items d.items ≡ parted n (compared_of one f) (compared_of other g)
unfolding compared
compared-parted ignored n None None f g c d shown seen p q r s h = grind arith
compared-parted ignored n None (Some o) f g c d shown seen p q r s h = grind arith
compared-parted ignored n (Some m) None f g c d shown seen p q r s h = grind arith
compared-parted ignored n (Some m) (Some o) f g c d shown seen p q r s h = grind arith

-- the first is refused
compared-first : (ignored : Ignored) (n : ℕ) (fault : Fault) (ys : List Item) (c shown : Feed) (f g : List ℕ)
    → ShowsItem c (Err fault) shown
    → Parts (compared ignored n c.items ys) (Err fault) f g
unfolding compared
compared-first ignored n (Refused r) ys c shown f g p = grind arith
compared-first ignored n (Read file offset) ys c shown f g p = tt
compared-first ignored n Write ys c shown f g p = p
compared-first ignored n Memory ys c shown f g p = tt

-- the second is refused
compared-second : (ignored : Ignored) (n : ℕ) (one : Option Meta) (fault : Fault) (c d shown seen : Feed) (f g : List ℕ)
    → ShowsItem c (Ok one) shown → ShowsItem d (Err fault) seen
    → Parts (compared ignored n c.items d.items) (Err fault) f g
unfolding compared
compared-second ignored n None (Refused r) c d shown seen f g p q = grind arith
compared-second ignored n (Some m) (Refused r) c d shown seen f g p q = grind arith
compared-second ignored n one (Read file offset) c d shown seen f g p q = tt
compared-second ignored n one Write c d shown seen f g p q = q
compared-second ignored n one Memory c d shown seen f g p q = tt

-- two packets more
pub Matched-more : (ignored : Ignored) (a b c d shown seen v w : Feed) (n : ℕ) (m o : Meta) → Matched ignored a b c d n
    → FeedKeeps c shown → (IsTrue c.told → ShowsItem c (Ok (Some m)) shown)
    → FeedKeeps d seen → (IsTrue d.told → ShowsItem d (Ok (Some o)) seen)
    → are_alike ignored (compared_of (Some m) shown.frame) (compared_of (Some o) seen.frame) ≡ true
    → FeedPasses shown v → FeedKeeps shown v → FeedPasses seen w → FeedKeeps seen w
    → Matched ignored a b v w (n + 1)
Matched-more ignored a b c d shown seen v w n m o i asked shows asks sees like passed keeps passes holds = record {
  number = omega (arith, i.number, asked.left, passed.left);
  first = Keeps-trans a c v i.first (Keeps-trans c shown v asked keeps);
  second = Keeps-trans b d w i.second (Keeps-trans d seen w asks holds);
  ends_first = λ t file.
      passed.endings (asked.told (i.first.told t)) file
      ∙ ((shows (i.first.told t)).0.endings file ∙ i.ends_first t file);
  ends_second = λ t file.
      passes.endings (asks.told (i.second.told t)) file
      ∙ ((sees (i.second.told t)).0.endings file ∙ i.ends_second t file);
  same = λ t u.
      let ct = i.first.told t in
      let du = i.second.told u in
      let p = shows ct in
      let q = sees du in
      let xs : drop 1 c.items ≡ v.items = sym (passed.items (asked.told ct) ∙ ap (drop 1) p.0.items) in
      let ys : drop 1 d.items ≡ w.items = sym (passes.items (asks.told du) ∙ ap (drop 1) q.0.items) in
      i.same t u ∙ (ap (λ l. compared ignored n l d.items) p.1
      ∙ (ap (compared ignored n (packet m shown.frame ∷ drop 1 c.items)) q.1
      ∙ (compared-alike ignored n m o shown.frame seen.frame (drop 1 c.items) (drop 1 d.items) like
      ∙ (ap (λ l. compared ignored (n + 1) l (drop 1 d.items)) xs ∙ ap (compared ignored (n + 1) v.items) ys))));
}

-- the same of what comes next, which is a packet of each since they are the same
pub Matched-next : (ignored : Ignored) (a b c d shown seen v w : Feed) (n : ℕ) (one other : Option Meta)
    → Matched ignored a b c d n
    → FeedKeeps c shown → (IsTrue c.told → ShowsItem c (Ok one) shown)
    → FeedKeeps d seen → (IsTrue d.told → ShowsItem d (Ok other) seen)
    → are_alike ignored (compared_of one shown.frame) (compared_of other seen.frame) ≡ true
    → FeedPasses shown v → FeedKeeps shown v → FeedPasses seen w → FeedKeeps seen w
    → Matched ignored a b v w (n + 1)
Matched-next ignored a b c d shown seen v w n (Some m) (Some o) i asked shows asks sees like passed keeps passes holds =
    Matched-more ignored a b c d shown seen v w n m o i asked shows asks sees like passed keeps passes holds
Matched-next ignored a b c d shown seen v w n None other i asked shows asks sees like passed keeps passes holds =
    absurd (false≢true like)
Matched-next ignored a b c d shown seen v w n (Some m) None i asked shows asks sees like passed keeps passes holds =
    absurd (false≢true like)

-- where they part
pub Parts-parted : (ignored : Ignored) (a b c d shown seen : Feed) (n : ℕ) (one other : Option Meta)
    → Matched ignored a b c d n
    → (IsTrue c.told → ShowsItem c (Ok one) shown) → (IsTrue d.told → ShowsItem d (Ok other) seen)
    → are_alike ignored (compared_of one shown.frame) (compared_of other seen.frame) ≡ false
    → IsTrue a.told → IsTrue b.told
    → compared ignored 0 a.items b.items ≡ parted n (compared_of one shown.frame) (compared_of other seen.frame)
Parts-parted ignored a b c d shown seen n one other i shows sees unlike t u =
    i.same t u ∙ compared-parted ignored n one other shown.frame seen.frame c d shown seen (shows (i.first.told t))
    (sees (i.second.told u)) refl refl unlike

-- a fault of the first
pub Parts-first : (ignored : Ignored) (a b c d shown : Feed) (n : ℕ) (fault : Fault) (f g : List ℕ)
    → Matched ignored a b c d n
    → (IsTrue c.told → ShowsItem c (Err fault) shown) → IsTrue a.told → IsTrue b.told
    → Parts (compared ignored 0 a.items b.items) (Err fault) f g
Parts-first ignored a b c d shown n fault f g i shows t u =
    subst (λ k. Parts k (Err fault) f g) (sym (i.same t u))
    (compared-first ignored n fault d.items c shown f g (shows (i.first.told t)))

-- a fault of the second
pub Parts-second : (ignored : Ignored) (a b c d shown seen : Feed) (n : ℕ) (one : Option Meta) (fault : Fault)
    (f g : List ℕ) → Matched ignored a b c d n
    → (IsTrue c.told → ShowsItem c (Ok one) shown) → (IsTrue d.told → ShowsItem d (Err fault) seen)
    → IsTrue a.told → IsTrue b.told → Parts (compared ignored 0 a.items b.items) (Err fault) f g
Parts-second ignored a b c d shown seen n one fault f g i shows sees t u =
    subst (λ k. Parts k (Err fault) f g) (sym (i.same t u))
    (compared-second ignored n one fault c d shown seen f g (shows (i.first.told t)) (sees (i.second.told u)))

-- a failed read of the first, and of the second
pub Fails-first : (ignored : Ignored) (a b c d shown : Feed) (n : ℕ) (fault : Fault) → Matched ignored a b c d n
    → GivesPacket c (Err fault) shown
    → FailsOne {A = Divergence} a b (Err fault)
Fails-first ignored a b c d shown n fault i gives = grind arith

pub Fails-second : (ignored : Ignored) (a b c d seen : Feed) (n : ℕ) (fault : Fault) → Matched ignored a b c d n
    → GivesPacket d (Err fault) seen
    → FailsOne {A = Divergence} a b (Err fault)
Fails-second ignored a b c d seen n fault i gives = grind arith

-- What `put_all` writes is printed: it answers no other fault than `Write`.
pub Prints-line : (text old new : List ℕ) (result : Result (Unit {0}) Fault) → Puts old result new text
    → IsOkUnless result Write → Prints text None old result new
Prints-line text old new (Ok x) p is = (refl, p)
Prints-line text old new (Err (Refused r)) p is = grind arith
Prints-line text old new (Err (Read file offset)) p is = grind arith
Prints-line text old new (Err Write) p is = p
Prints-line text old new (Err Memory) p is = grind arith

-- A writer that failed in the first part of a text.
pub Prints-more : (old new head rest : List ℕ) (fault : Fault) → fault ≡ Write
    → Prints {A = Unit {0}} head None old (Err fault) new
    → Prints {A = Unit {0}} (head ++ rest) None old (Err fault) new
Prints-more old new head rest (Refused r) is p = grind arith
Prints-more old new head rest (Read file offset) is p = grind arith
Prints-more old new head rest Write is p = Prints-head None old new head rest Write refl p
Prints-more old new head rest Memory is p = grind arith

-- both have ended
pub Tells-same : (options : DiffOptions) (cuts : CutEnds) (n : ℕ) (one other : Option Meta) (f g old new : List ℕ)
    → (is_none one && is_none other) ≡ true
    → Prints {A = Unit {0}} (diff_text_in options cuts (same_packets n)) None old (Ok tt) new
    → TellsDiff options cuts (parted n (compared_of one f) (compared_of other g)) old (Ok true) new
Tells-same options cuts n None None f g old new h p = (refl, refl, p.1)
Tells-same options cuts n None (Some o) f g old new h p = absurd (false≢true h)
Tells-same options cuts n (Some m) other f g old new h p = absurd (false≢true h)

pub Tells-same-fault : (options : DiffOptions) (cuts : CutEnds) (n : ℕ) (one other : Option Meta)
    (f g old new : List ℕ) (fault : Fault)
    → (is_none one && is_none other) ≡ true → fault ≡ Write
    → Prints {A = Unit {0}} (diff_text_in options cuts (same_packets n)) None old (Err fault) new
    → TellsDiff options cuts (parted n (compared_of one f) (compared_of other g)) old (Err fault) new
Tells-same-fault options cuts n None None f g old new fault h is p = rw is ((refl, rw is at p))
Tells-same-fault options cuts n None (Some o) f g old new fault h is p = absurd (false≢true h)
Tells-same-fault options cuts n (Some m) other f g old new fault h is p = absurd (false≢true h)

-- one of them has a packet
pub Tells-other : (options : DiffOptions) (cuts : CutEnds) (n : ℕ) (one other : Option Meta) (f g old new : List ℕ)
    → (is_none one && is_none other) ≡ false
    → Prints {A = Unit {0}} (diff_text_in options cuts (other_packet (n + 1) (compared_of one f) (compared_of other g)))
    None old (Ok tt) new
    → TellsDiff options cuts (parted n (compared_of one f) (compared_of other g)) old (Ok false) new
Tells-other options cuts n None None f g old new h p = absurd (false≢true (sym h))
Tells-other options cuts n None (Some o) f g old new h p = (refl, refl, p.1)
Tells-other options cuts n (Some m) other f g old new h p = (refl, refl, p.1)

pub Tells-other-fault : (options : DiffOptions) (cuts : CutEnds) (n : ℕ) (one other : Option Meta)
    (f g old new : List ℕ) (fault : Fault)
    → (is_none one && is_none other) ≡ false → fault ≡ Write
    → Prints {A = Unit {0}}
    (diff_text_in options cuts (other_packet (n + 1) (compared_of one f) (compared_of other g))) None old
    (Err fault) new
    → TellsDiff options cuts (parted n (compared_of one f) (compared_of other g)) old (Err fault) new
Tells-other-fault options cuts n None None f g old new fault h is p = absurd (false≢true (sym h))
Tells-other-fault options cuts n None (Some o) f g old new fault h is p = rw is ((refl, rw is at p))
Tells-other-fault options cuts n (Some m) other f g old new fault h is p = rw is ((refl, rw is at p))

-- how the files of the feeds end is told where they part
pub Matched-ends : (ignored : Ignored) (a b c d shown seen : Feed) (n : ℕ) (one other : Option Meta)
    → Matched ignored a b c d n
    → (IsTrue c.told → ShowsItem c (Ok one) shown) → (IsTrue d.told → ShowsItem d (Ok other) seen)
    → (IsTrue a.told → SameEndings a shown) × (IsTrue b.told → SameEndings b seen)
Matched-ends ignored a b c d shown seen n one other i shows sees = (
  λ t file. same_at c shown one (shows (i.first.told t)) file ∙ i.ends_first t file,
  λ t file. same_at d seen other (sees (i.second.told t)) file ∙ i.ends_second t file,
)
  where
    same_at : (old new : Feed) (found : Option Meta) → ShowsItem old (Ok found) new → (file : ℕ)
        → new.endings file ≡ old.endings file
    same_at old new None s file = s.0.endings file
    same_at old new (Some meta) s file = s.0.endings file

same-cuts : (cuts ends : CutEnds) → cuts.first ≡ ends.first → cuts.second ≡ ends.second → cuts ≡ ends
same-cuts cuts ends first second =
    ap (λ c. record { first = c; second = cuts.second }) first
    ∙ ap (λ c. record { first = ends.first; second = c }) second

-- what is told of files where they part is told by how they end, of a file that has a packet nothing
pub told-as : (options : DiffOptions) (cuts ends : CutEnds) (n : ℕ) (one other : Option Meta) (f g old new : List ℕ)
    (result : Result Bool Fault)
    → (IsNone one → cuts.first ≡ ends.first) → (IsNone other → cuts.second ≡ ends.second)
    → TellsDiff options cuts (parted n (compared_of one f) (compared_of other g)) old result new
    → TellsDiff options ends (parted n (compared_of one f) (compared_of other g)) old result new
told-as options cuts ends n None None f g old new result first second t =
    subst (λ c. TellsDiff options c (same_packets n) old result new) (same-cuts cuts ends (first refl) (second refl)) t
told-as options cuts ends n None (Some o) f g old new result first second t =
    subst (λ c. TellsDiff options (record { first = c; second = ends.second })
    (other_packet (n + 1) None (Some (record { meta = o; frame = g }))) old result new) (first refl) t
told-as options cuts ends n (Some m) None f g old new result first second t =
    subst (λ c. TellsDiff options (record { first = ends.first; second = c })
    (other_packet (n + 1) (Some (record { meta = m; frame = f })) None) old result new) (second refl) t
told-as options cuts ends n (Some m) (Some o) f g old new result first second t = t

-- how a file was cut that has ended is how it ends
ended : (packet : Option Meta) (end other : FileEnd) → IsNone packet → end ≡ other
    → ended_cut packet end ≡ other.ending.cut
ended None end other none is = ap (λ e. e.ending.cut) is
ended (Some meta) end other none is = absurd (cc)

-- what is known of two files where they part
rests-parted : (n : ℕ) (one other : Option Meta) (f g : List ℕ) (first second : FileEnd)
    → (record { first = ended_cut one first; second = ended_cut other second })
    ≡ ended_rests (record { first = first.ending.cut; second = second.ending.cut })
    (parted n (compared_of one f) (compared_of other g))
rests-parted n None None f g first second = refl
rests-parted n None (Some o) f g first second = refl
rests-parted n (Some m) None f g first second = refl
rests-parted n (Some m) (Some o) f g first second = refl

same-parted : (n : ℕ) (one other : Option Meta) (f g : List ℕ)
    → (is_none one && is_none other) ≡ is_same (parted n (compared_of one f) (compared_of other g))
same-parted n None None f g = refl
same-parted n None (Some o) f g = refl
same-parted n (Some m) other f g = refl

-- what is told of a comparison, without what is returned
tells-done : (options : DiffOptions) (cuts : CutEnds) (k : Comparison) (old new : List ℕ) (result : Result Bool Fault)
    → TellsDiff options cuts k old result new
    → Tells (diff_text_in options cuts k) (diff_refusal k) old (done_of result) new
tells-done options cuts k old new (Ok so) t = (t.0, t.2)
tells-done options cuts k old new (Err (Refused r)) t = t
tells-done options cuts k old new (Err (Read file offset)) t = t
tells-done options cuts k old new (Err Write) t = t
tells-done options cuts k old new (Err Memory) t = t

-- Where the feeds of two files part.
module _ (options : DiffOptions) (tail : Tail) (first second : List ℕ) (a b shown seen : Feed) (p : Divergence)
    (items_a : a.items ≡ file_items tail 1 first) (items_b : b.items ≡ file_items tail 2 second)
    (ends_a : (file : ℕ) → a.endings file ≡ file_ending tail 1 first)
    (ends_b : (file : ℕ) → b.endings file ≡ file_ending tail 2 second)
    (parts : Parts (compared options.ignored 0 a.items b.items) (Ok p) shown.frame seen.frame)
    (same_a : SameEndings a shown) (same_b : SameEndings b seen) where
  parted_is : comparison_of options.ignored tail first second
      ≡ parted p.passed (compared_of p.first shown.frame) (compared_of p.second seen.frame)
  parted_is =
      sym (ap (λ l. compared options.ignored 0 l b.items) items_a
      ∙ ap (compared options.ignored 0 (file_items tail 1 first)) items_b) ∙ parts

  module _ (cut other : Option CutRest) (cut_is : cut ≡ ended_cut p.first (shown.endings 1))
      (other_is : other ≡ ended_cut p.second (seen.endings 2)) where
    -- what is told there is told of the files
    pub told-diff : (old new : List ℕ) (result : Result Bool Fault)
        → TellsDiff options (record { first = cut; second = other })
        (parted p.passed (compared_of p.first shown.frame) (compared_of p.second seen.frame)) old result new
        → Tells (diff_text_in options (cuts_of tail first second) (comparison_of options.ignored tail first second))
        (diff_refusal (comparison_of options.ignored tail first second)) old (done_of result) new
    told-diff old new result told =
        tells-done options (cuts_of tail first second) (comparison_of options.ignored tail first second) old new result
        (subst (λ k. TellsDiff options (cuts_of tail first second) k old result new) (sym parted_is)
        (told-as options (record { first = cut; second = other }) (cuts_of tail first second) p.passed p.first p.second
        shown.frame seen.frame old new result
        (λ none. cut_is ∙ ended p.first _ _ none (same_a 1 ∙ ends_a 1))
        (λ none. other_is ∙ ended p.second _ _ none (same_b 2 ∙ ends_b 2)) told))

    -- and so is what is returned
    pub ends-diff : (so : Bool) → so ≡ (is_none p.first && is_none p.second)
        → (record { is_same = so; cuts = record { first = cut; second = other } })
        ≡ diff_end (cuts_of tail first second) (comparison_of options.ignored tail first second)
    ends-diff so so_is =
        let one = same_a 1 ∙ ends_a 1 in
        let two = same_b 2 ∙ ends_b 2 in
        let is : so ≡ is_same (comparison_of options.ignored tail first second) =
        so_is ∙ (same-parted p.passed p.first p.second shown.frame seen.frame ∙ ap is_same (sym parted_is)) in
        let rests : (record { first = cut; second = other })
        ≡ ended_rests (cuts_of tail first second) (comparison_of options.ignored tail first second) =
        (λ i. record { first = cut_is i; second = other_is i })
        ∙ ((λ i. record { first = ended_cut p.first (one i); second = ended_cut p.second (two i) })
        ∙ (rests-parted p.passed p.first p.second shown.frame seen.frame (file_ending tail 1 first)
        (file_ending tail 2 second) ∙ ap (ended_rests (cuts_of tail first second)) (sym parted_is))) in
        λ i. record { is_same = is i; cuts = rests i }

-- A failed read of one of two feeds is of the file of its number, whose device can fail.
pub fails-of-two : (A B : Type 0) (a b : Feed) (one other : Bool) (fault : Fault) → a.files ≡ 1 ∷ [] → b.files ≡ 2 ∷ []
    → a.can_fail 1 ≡ one → b.can_fail 2 ≡ other → FailsOne {A = A} a b (Err fault)
    → FailsOf {A = B} (one ∷ other ∷ []) (Err fault)
fails-of-two A B a b one other (Refused r) first second can cannot fails = tt
fails-of-two A B a b one other (Read file offset) first second can cannot fails = grind arith
fails-of-two A B a b one other Write first second can cannot fails = tt
fails-of-two A B a b one other Memory first second can cannot fails = tt
