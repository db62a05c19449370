-- How far a file was read, packet by packet, as it would be if it ended there.
use Rattle.std.proofs.Common.{◌≡◌, ◌≤◌, ℕ, List, [], ◌∷◌, Bool, true, false, IsTrue, Option, Some, None, Ok, Err}
use Rattle.std.proofs.Common.{refl, sym, ap, subst, ◌∙◌, arith}
use Rattle.cap_bytes.specs.declared.faults.Fault.{Fault}
use Rattle.cap_bytes.specs.declared.faults.Fault.TheVariants.{Refused, Read, Write, Memory}
use Rattle.cap_source.proofs.Fronts.{not-both}
use Rattle.cap_source.specs.Feed.{Item, packet, refusal_of}
use Rattle.cap_source.specs.Items.{SectionProgress}
use Rattle.cap_source.specs.inner.Fronts.{Fronts, FrontsFail, FrontsFind, FrontsGive, MayEnd, reader_fronts}
use Rattle.cap_source.specs.inner.Readers.{reader_file_state}
use Rattle.cap_source.specs.declared.feeds.FileEnd.{FileEnd}
use Rattle.cap_source.specs.declared.feeds.Head.{Head}
use Rattle.cap_source.specs.declared.feeds.Head.TheVariants as heads
use Rattle.cap_source.specs.declared.packets.Meta.{Meta}
use Rattle.cap_source.specs.declared.readers.Reader.{Reader}
use Rattle.cap_source.specs.declared.readers.Reader.TheVariants as readers
use Rattle.cap_check.proofs.Taking.{after-none, after-packet}
use Rattle.cap_check.specs.Checking.{checked_after, nothing_checked, with_checked}
use Rattle.cap_check.specs.inner.Taking.{FrontsNext, StopsAt, StopsIf}
use Rattle.cap_check.specs.declared.checked.Checked.{Checked}

-- The packets so far of a file that was `old` are taken. If it ended further on, they would be the first of its
-- packets.
pub record Reaching (old mid : Fronts) (checked : Checked) : Type 0 where
  pub size : mid.size ≡ old.size
  pub broken : mid.broken ≡ old.broken
  pub fresh : mid.begun ≡ false → (old.begun ≡ false) × (mid.offset ≡ old.offset) × (checked ≡ nothing_checked)
  pub back : (end : ℕ) → MayEnd mid end → MayEnd old end
  pub refusal : (end : ℕ) → MayEnd mid end → refusal_of (old.items end) ≡ refusal_of (mid.items end)
  pub counts : (end : ℕ) → MayEnd mid end
      → checked_after nothing_checked (old.items end) ≡ checked_after checked (mid.items end)
  pub ending : (end : ℕ) → MayEnd mid end → old.ending end ≡ mid.ending end

-- none is
pub Reaching-none : (old : Fronts) (checked : Checked) → checked ≡ nothing_checked → Reaching old old checked
Reaching-none old checked is = record {
  size = refl;
  broken = refl;
  fresh = λ f. (f, refl, is);
  back = λ end may. may;
  refusal = λ end may. refl;
  counts = λ end may. ap (λ (c : Checked). checked_after c (old.items end)) (sym is);
  ending = λ end may. refl;
}

refusal-packet : (m : Meta) (frame : List ℕ) (items : List Item)
    → refusal_of (packet m frame ∷ items) ≡ refusal_of items
unfolding refusal_of
refusal-packet m frame items = refl

-- one packet more
reaching-next : (old mid new : Fronts) (checked more : Checked) (meta : Meta) (head : Option Head)
    → Reaching old mid checked → head ≡ Some (heads.Packet meta) → (g : FrontsGive mid head new)
    → more ≡ with_checked checked meta → Reaching old new more
reaching-next old mid new checked more meta head i of g is =
    let same : g.meta ≡ meta = by g.meta (sym of ∙ g.head_is) in
    let took : with_checked checked g.meta ≡ more = ap (with_checked checked) same ∙ sym is in
    record {
      size = g.size ∙ i.size;
      broken = g.broken ∙ i.broken;
      fresh = λ f. absurd (not-both new.begun g.begun f);
      back = λ end may. i.back end (g.back end may.0);
      refusal = λ end may. i.refusal end (g.back end may.0) ∙ (ap refusal_of (g.items end may.0)
          ∙ refusal-packet g.meta g.frame (new.items end));
      counts = λ end may.
          i.counts end (g.back end may.0)
          ∙ (ap (checked_after checked) (g.items end may.0)
          ∙ (after-packet checked g.meta g.frame (new.items end)
          ∙ ap (λ (c : Checked). checked_after c (new.items end)) took));
      ending = λ end may. i.ending end (g.back end may.0) ∙ g.ending end may.0;
    }
  where
    by : (m : Meta) → Some (heads.Packet meta) ≡ Some (heads.Packet m) → m ≡ meta
    by m e = grind arith

pub Reaching-more : (old mid shown new : Fronts) (checked more : Checked) (meta : Meta) → Reaching old mid checked
    → FrontsNext mid (Ok (Some meta)) shown → new ≡ shown → more ≡ with_checked checked meta → Reaching old new more
Reaching-more old mid shown new checked more meta i g passed is =
    subst (λ (f : Fronts). Reaching old f more) (sym passed)
    (reaching-next old mid shown checked more meta (Some (heads.Packet meta)) i refl g is)

refusal-none : (items : List Item) → items ≡ [] → refusal_of items ≡ None
unfolding refusal_of
refusal-none items is = rw is refl

-- a read fails
stops-at : (old mid new : Fronts) (checked : Checked) (offset : ℕ) → Reaching old mid checked
    → FrontsFail mid offset new → StopsAt old offset new checked
stops-at old mid new checked offset i f = record {
  within = subst (λ (n : ℕ). offset ≤ n) i.size f.within;
  fresh = λ n. let g = f.fresh n in let h = i.fresh g.0 in (h.0, g.1 ∙ h.1, h.2);
  back = λ n. i.back offset (f.back n);
  refusal = λ n. i.refusal offset (f.back n) ∙ refusal-none (mid.items offset) (f.items n);
  counts = λ n. sym (i.counts offset (f.back n) ∙ (ap (checked_after checked) (f.items n) ∙ after-none checked));
  so_far = λ n. f.so_far n ∙ ap Some (sym (i.ending offset (f.back n)));
  whole = λ n. ap (λ (e : FileEnd). e.ending.cut) (i.ending offset (f.back n)) ∙ f.whole n;
}

pub Reaching-stops : (old mid new : Fronts) (checked : Checked) (fault : Fault) → Reaching old mid checked
    → FrontsNext mid (Err fault) new → old.broken ≡ None → StopsIf {A = Unit {0}} old (Err fault) new checked
Reaching-stops old mid new checked (Refused refusal) i f none = tt
Reaching-stops old mid new checked (Read file offset) i f none =
    stops-at old mid new checked offset i (f (i.broken ∙ none))
Reaching-stops old mid new checked Write i f none = tt
Reaching-stops old mid new checked Memory i f none = tt

-- whether its device tells its bytes, of the file and as it would be
pub fronts-told : {R : Type 0} (reader : Reader R) (p : SectionProgress)
    → (reader_fronts reader p).told ≡ (reader_file_state reader p).told
fronts-told (readers.Unread window tail) p = refl
fronts-told (readers.Pcap reader) p = refl
fronts-told (readers.Pcapng reader) p = refl
fronts-told readers.Moved p = refl

-- what was found is a packet that comes next
pub next-given : (old new : Fronts) (head : Option Head) (meta : Meta) → head ≡ Some (heads.Packet meta)
    → FrontsFind old (Ok true) head new → FrontsNext old (Ok (Some meta)) new
next-given old new head meta is g = subst (λ (h : Option Head). FrontsGive old h new) is g

pub next-fault : (old new : Fronts) (head : Option Head) (fault : Fault) → FrontsFind old (Err fault) head new
    → FrontsNext old (Err fault) new
next-fault old new head (Refused refusal) f = tt
next-fault old new head (Read file offset) f = f
next-fault old new head Write f = tt
next-fault old new head Memory f = tt

pub told-kept : {R : Type 0} (old new : Reader R) (p q : SectionProgress)
    → (IsTrue (reader_file_state old p).told → IsTrue (reader_file_state new q).told)
    → IsTrue (reader_fronts old p).told → IsTrue (reader_fronts new q).told
told-kept old new p q keeps t =
    subst (λ (b : Bool). IsTrue b) (sym (fronts-told new q))
    (keeps (subst (λ (b : Bool). IsTrue b) (fronts-told old p) t))
