-- The feeds as one are a lawful feed.
use Rattle.std.proofs.Common.{◌≡◌, ℕ, suc, ◌+◌, ◌*◌, ◌^◌, ◌≤◌, Bool, true, false, cond, List, [], ◌∷◌, ◌++◌, length}
use Rattle.std.proofs.Common.{drop, refl, sym, ap, ◌∙◌, subst, arith, length-append, Option, Some, None}
use Rattle.std.specs.Prelude.{◌||◌, ◌==◌, map, IfSome, is_some}
use Rattle.std.specs.List.{AllByRecursion, list_all, flat_map}
use Rattle.std.proofs.lemmas.Bool.{true≢false}
use borrow.Author.Tests.{eqb-true}
use Rattle.cap_source.specs.declared.feeds.Head.{Head}
use Rattle.cap_source.specs.declared.feeds.Head.TheVariants as heads
use Rattle.cap_source.specs.declared.packets.Meta.{Meta}
use Rattle.cap_source.specs.Feed.{Item, packet, refused, Leads, IsFeed, IsPacketOf, IfPacket, IsRefusedOf, HasFile}
use Rattle.cap_merge.specs.inner.Lists.{all-back, all-each, any-back, any-front}
use Rattle.cap_merge.specs.inner.First.{has_next}
use Rattle.cap_merge.specs.Parts.{Part, has_file, are_known, part_head, known_of, frame_by, first_part, run_of}
use Rattle.cap_merge.specs.Parts.{broken_of}
use Rattle.cap_merge.specs.Parts.{places_of, most_of, left_of, merged_feed}
use Rattle.cap_merge.specs.inner.Leading.{Split, IsFirstOf, first_is}
use Rattle.cap_merge.specs.inner.Sound.{IsSoundPart, AreFrom}
use Rattle.cap_merge.specs.inner.Coming.{IsReadyPart, leads_known, reached_known, run-first, run-none, run_behind}

-- all parts are ready if all are sound, lawful, told and known
pub ready_all : (ps : List Part) → AllByRecursion IsSoundPart ps → AllByRecursion (λ p. IsFeed p.feed) ps
    → AllByRecursion (λ p. p.feed.told ≡ true) ps → AllByRecursion (λ p. is_some p.lane.head ≡ true) ps
    → AllByRecursion IsReadyPart ps
ready_all [] s f t k = tt
ready_all (p ∷ ps) s f t k =
    (record { sound = s.0; lawful = f.0; told = t.0; known = k.0 }, ready_all ps s.1 f.1 t.1 k.1)

pub at_first : (P : Part → Type 0) (ps : List Part) (q : Part) → AllByRecursion P ps → Split ps q → P q
at_first P ps q f s = (all-back P s.before (q ∷ s.after) (subst (λ (xs : List Part). AllByRecursion P xs) s.whole f)).0

leads_packet : (meta : Meta) (frame : List ℕ) (items : List Item) (x : Item) (rest : List Item) → items ≡ x ∷ rest
    → x ≡ packet meta frame
    → items ≡ packet meta frame ∷ drop 1 items
leads_packet meta frame items x rest e f = e ∙ (λ i. f i ∷ rest) ∙ sym (λ i. packet meta frame ∷ drop 1 (e i))

-- what the first part's next item is, and what the run is then
leads_by : (ps : List Part) (q : Part) (h : Option Head) → q.lane.head ≡ h → AllByRecursion IsReadyPart ps → Split ps q
    → Leads h q.feed.frame (map (λ y. y.item) (run_of ps))
leads_by ps q None e r s = tt
leads_by ps q (Some (heads.Packet meta)) e r s =
    let ready = at_first IsReadyPart ps q r s in
    let leads = leads_known q (heads.Packet meta) ready.sound ready.lawful e ready.told in
    let first = run-first ps q (packet meta q.feed.frame) r s leads
    (reached_known q (heads.Packet meta) ready.sound e) in
    leads_packet meta q.feed.frame (map (λ y. y.item) (run_of ps)) (packet meta q.feed.frame)
    (map (λ y. y.item) (run_behind s.before q s.after))
    (ap (map (λ y. y.item)) first) refl
leads_by ps q (Some (heads.Refused refusal)) e r s =
    let ready = at_first IsReadyPart ps q r s in
    let leads = leads_known q (heads.Refused refusal) ready.sound ready.lawful e ready.told in
    ap (map (λ y. y.item))
    (run-first ps q (refused refusal) r s (leads ∙ sym (λ i. refused refusal ∷ drop 1 (leads i)))
    (reached_known q (heads.Refused refusal) ready.sound e))
leads_by ps q (Some heads.End) e r s = absurd (true≢false (sym s.next ∙ ap has_next e))

leads_first : (ps : List Part) (o : Option Part) → IsFirstOf ps o → AllByRecursion IsReadyPart ps
    → Leads (part_head o) (frame_by o) (map (λ y. y.item) (run_of ps))
leads_first ps None n r = ap (map (λ y. y.item)) (run-none ps r n)
leads_first ps (Some q) s r = leads_by ps q q.lane.head refl r s

leads_if : (ps : List Part) (b : Bool) → are_known ps ≡ b → AllByRecursion IsSoundPart ps
    → AllByRecursion (λ p. IsFeed p.feed) ps
    → list_all (λ p. p.feed.told) ps ≡ true
    → Leads (cond b (part_head (first_part ps)) None) (frame_by (first_part ps)) (map (λ y. y.item) (run_of ps))
leads_if ps true e s f t =
    leads_first ps (first_part ps) (first_is ps)
    (ready_all ps s f (all-each (λ p. p.feed.told) ps t) (all-each (λ p. is_some p.lane.head) ps e))
leads_if ps false e s f t = tt

pub file_behind : (n : ℕ) (before after : List Part) (q : Part) → AreFrom n (before ++ (q ∷ after)) → (k : ℕ) × (n ≤ k)
    × (q.feed.files ≡ k ∷ [])
file_behind n [] after q a = (n, omega arith, a.0)
file_behind n (p ∷ before) after q a =
    let behind = file_behind (suc n) before after q a.1 in
    (behind.0, omega (arith, behind.1), behind.2)

or-false : (b : Bool) → (b || false) ≡ true → b ≡ true
or-false b e = grind arith

pub one_file : (files : List ℕ) (k file : ℕ) → files ≡ k ∷ [] → has_file files file ≡ true → k ≡ file
one_file files k file e h = eqb-true k file (or-false (k == file) (ap (λ fs. has_file fs file) (sym e) ∙ h))

-- no file is of two parts
other_file : (n : ℕ) (before after : List Part) (p q : Part) (file : ℕ) → p.feed.files ≡ n ∷ []
    → AreFrom (suc n) (before ++ (q ∷ after))
    → has_file q.feed.files file ≡ true → (b : Bool) → has_file p.feed.files file ≡ b → b ≡ false
other_file n before after p q file e a h b own = grind (arith, file_behind, one_file)

pub places_at : (n : ℕ) (before after : List Part) (q : Part) (file : ℕ) → AreFrom n (before ++ (q ∷ after))
    → has_file q.feed.files file ≡ true
    → places_of (before ++ (q ∷ after)) file ≡ q.feed.places file
unfolding places_of
places_at n [] after q file a h = rw h refl
places_at n (p ∷ before) after q file a h =
    rw (other_file n before after p q file a.0 a.1 h (has_file p.feed.files file) refl)
    (places_at (suc n) before after q file a.1 h)

pub has_file-all : (before after : List Part) (q : Part) (file : ℕ) → has_file q.feed.files file ≡ true
    → has_file (flat_map (λ p. p.feed.files) (before ++ (q ∷ after))) file ≡ true
has_file-all [] after q file h = any-front (λ f. f == file) q.feed.files (flat_map (λ p. p.feed.files) after) h
has_file-all (p ∷ before) after q file h = any-back (λ f. f == file) p.feed.files
    (flat_map (λ p. p.feed.files) (before ++ (q ∷ after))) (has_file-all before after q file h)

has_file-first : (ps : List Part) (q : Part) (file : ℕ) → Split ps q → HasFile q.feed.files file
    → HasFile (flat_map (λ p. p.feed.files) ps) file
has_file-first ps q file s h =
    ap (λ xs. has_file (flat_map (λ p. p.feed.files) xs) file) s.whole ∙ has_file-all s.before s.after q file h

places_first : (n : ℕ) (ps : List Part) (q : Part) (file : ℕ) → AreFrom n ps → Split ps q → HasFile q.feed.files file
    → places_of ps file ≡ q.feed.places file
places_first n ps q file a s h =
    ap (λ xs. places_of xs file) s.whole
    ∙ places_at n s.before s.after q file (subst (λ (xs : List Part). AreFrom n xs) s.whole a) h

left_at : (before after : List Part) (q : Part) → q.feed.left ≤ left_of (before ++ (q ∷ after))
left_at [] after q = omega arith
left_at (p ∷ before) after q = omega (arith, left_at before after q)

left_first : (ps : List Part) (q : Part) → Split ps q → q.feed.left ≤ left_of ps
left_first ps q s = subst (λ (xs : List Part). q.feed.left ≤ left_of xs) (sym s.whole) (left_at s.before s.after q)

left_most : (ps : List Part) → AllByRecursion (λ p. IsFeed p.feed) ps
    → left_of ps ≤ length (flat_map (λ p. p.feed.files) ps) * 2 ^ 40
left_most [] f = omega arith
left_most (p ∷ ps) f =
    let total : length (p.feed.files ++ flat_map (λ q. q.feed.files) ps)
    ≡ length p.feed.files + length (flat_map (λ q. q.feed.files) ps) =
    length-append p.feed.files (flat_map (λ q. q.feed.files) ps) in
    rw total (omega (arith, f.0.most, left_most ps f.1))

most_by : (number : Part → ℕ) (limit : ℕ) (ps : List Part) → AllByRecursion (λ p. number p ≤ limit) ps
    → most_of number ps ≤ limit
most_by number limit [] f = omega arith
most_by number limit (p ∷ ps) f = omega (arith, f.0, most_by number limit ps f.1)

windows : (ps : List Part) → AllByRecursion (λ p. IsFeed p.feed) ps
    → AllByRecursion (λ p. p.feed.held.window ≤ 524288) ps
windows [] f = tt
windows (p ∷ ps) f = (f.0.window, windows ps f.1)

interface_counts : (ps : List Part) → AllByRecursion (λ p. IsFeed p.feed) ps
    → AllByRecursion (λ p. p.feed.held.interfaces ≤ 1024) ps
interface_counts [] f = tt
interface_counts (p ∷ ps) f = (f.0.interfaces, interface_counts ps f.1)

-- what is true of the packet that comes next of a part
pub packet_known : (q : Part) (meta : Meta) → IsSoundPart q → IsFeed q.feed → q.lane.head ≡ Some (heads.Packet meta)
    → IsPacketOf q.feed meta
packet_known q meta s f e =
    let known : q.feed.known ≡ Some (heads.Packet meta) =
    subst (λ (w : Option Head). IfSome w (λ head. q.feed.known ≡ Some head)) e s.agrees in
    subst (λ (w : Option Head). IfPacket w (λ m. IsPacketOf q.feed m)) known f.packet

packet_by : (ps : List Part) (q : Part) (h : Option Head) → q.lane.head ≡ h → first_part ps ≡ Some q → AreFrom 1 ps
    → Split ps q → IsSoundPart q → IsFeed q.feed
    → IfPacket h (λ meta. IsPacketOf (merged_feed ps) meta)
unfolding merged_feed
packet_by ps q (Some (heads.Packet meta)) e o a s k f =
    let own = packet_known q meta k f e in
    record {
      file = has_file-first ps q meta.file s own.file;
      captured = ap (λ w. length (frame_by w)) o ∙ own.captured;
      limit = own.limit;
      place = subst (λ (n : ℕ). n ≤ meta.offset) (sym (places_first 1 ps q meta.file a s own.file)) own.place;
      offset = own.offset;
      left = omega (arith, own.left, left_first ps q s);
    }
packet_by ps q h e o a s k f = grind arith

packet_first : (ps : List Part) (o : Option Part) → first_part ps ≡ o → IsFirstOf ps o → AreFrom 1 ps
    → AllByRecursion IsSoundPart ps → AllByRecursion (λ p. IsFeed p.feed) ps
    → IfPacket (part_head o) (λ meta. IsPacketOf (merged_feed ps) meta)
packet_first ps None e n a s f = tt
packet_first ps (Some q) e split a s f =
    packet_by ps q q.lane.head refl e a split (at_first IsSoundPart ps q s split)
    (at_first (λ p. IsFeed p.feed) ps q f split)

packet_if : (ps : List Part) (b : Bool) → AreFrom 1 ps → AllByRecursion IsSoundPart ps
    → AllByRecursion (λ p. IsFeed p.feed) ps
    → IfPacket (cond b (part_head (first_part ps)) None) (λ meta. IsPacketOf (merged_feed ps) meta)
packet_if ps true a s f = packet_first ps (first_part ps) refl (first_is ps) a s f
packet_if ps false a s f = tt

refusal_by : (ps : List Part) (q : Part) (h : Option Head) → q.lane.head ≡ h → Split ps q → IsSoundPart q
    → IsFeed q.feed
    → IsRefusedOf (flat_map (λ p. p.feed.files) ps) h
refusal_by ps q (Some (heads.Refused refusal)) e s k f =
    let known : q.feed.known ≡ Some (heads.Refused refusal) =
    subst (λ (w : Option Head). IfSome w (λ head. q.feed.known ≡ Some head)) e k.agrees in
    has_file-first ps q refusal.file s (subst (λ (w : Option Head). IsRefusedOf q.feed.files w) known f.refusal)
refusal_by ps q h e s k f = grind arith

refusal_first : (ps : List Part) (o : Option Part) → IsFirstOf ps o → AllByRecursion IsSoundPart ps
    → AllByRecursion (λ p. IsFeed p.feed) ps
    → IsRefusedOf (flat_map (λ p. p.feed.files) ps) (part_head o)
refusal_first ps None n s f = tt
refusal_first ps (Some q) split s f = refusal_by ps q q.lane.head refl split (at_first IsSoundPart ps q s split)
    (at_first (λ p. IsFeed p.feed) ps q f split)

refusal_if : (ps : List Part) (b : Bool) → AllByRecursion IsSoundPart ps → AllByRecursion (λ p. IsFeed p.feed) ps
    → IsRefusedOf (flat_map (λ p. p.feed.files) ps) (cond b (part_head (first_part ps)) None)
refusal_if ps true s f = refusal_first ps (first_part ps) (first_is ps) s f
refusal_if ps false s f = tt

pub whole_known : (ps : List Part) → are_known ps ≡ true → broken_of ps ≡ None
unfolding broken_of
whole_known [] k = refl
whole_known (p ∷ ps) k = grind (arith, whole_known ps)

where_some : (h : Option Head) (P : Type 0) → P → IfSome h (λ head. P)
where_some h P is = grind arith

whole_if : (ps : List Part) (b : Bool) → are_known ps ≡ b
    → IfSome (cond b (part_head (first_part ps)) None) (λ head. broken_of ps ≡ None)
whole_if ps b e = grind (arith, whole_known)

-- The feeds as one are a lawful feed.
pub merged-lawful : (ps : List Part) → AreFrom 1 ps → AllByRecursion IsSoundPart ps
    → AllByRecursion (λ p. IsFeed p.feed) ps
    → IsFeed (merged_feed ps)
unfolding merged_feed known_of
merged-lawful ps a s f =
    record {
      leads = λ t. leads_if ps (are_known ps) refl s f t;
      packet = packet_if ps (are_known ps) a s f;
      refusal = refusal_if ps (are_known ps) s f;
      whole = whole_if ps (are_known ps) refl;
      most = left_most ps f;
      window = most_by (λ p. p.feed.held.window) 524288 ps (windows ps f);
      interfaces = most_by (λ p. p.feed.held.interfaces) 1024 ps (interface_counts ps f);
    }
