-- A step of a job, by what its file gives.
use Rattle.std.proofs.Common.{◌≡◌, ◌+◌, ◌++◌, ◌∷◌, [], ℕ, List, drop, Some, None, Ok, Err}
use Rattle.std.proofs.Common.{refl, sym, ap, subst, ◌∙◌, arith, append_assoc}
use Rattle.std.proofs.lemmas.Bool.{false≢true}
use Rattle.cap_bytes.specs.declared.faults.Fault.{Fault}
use Rattle.cap_bytes.specs.declared.faults.Fault.TheVariants.{Refused, Read, Write, Memory}
use Rattle.cap_source.specs.Feed.{Feed, FindsPacket, HasFile, Item, refusal_of}
use Rattle.cap_source.specs.inner.Walk.{ShowsItem}
use Rattle.cap_source.specs.declared.packets.Meta.{Meta}
use Rattle.cap_commands.specs.ClassText.{packet_line_by}
use Rattle.cap_commands.specs.ListText.{list_lines}
use Rattle.cap_commands.specs.declared.jobs.Finding.TheVariants.{Nothing}
use Rattle.cap_commands.specs.declared.list.ListOptions.{ListOptions}
use Rattle.capt_c.specs.JobRests.{StepsJob, end_by, feed_rest, items_rest}
use Rattle.capt_c.specs.JobStands.{ListStands}

-- ---- the only file

pub only-first : (file : ℕ) → HasFile (1 ∷ []) file → file ≡ 1
only-first file has = grind arith

-- ---- the lines of packets

-- the call for the next packet answers a fault
pub list-fault : (options : ListOptions) (n : ℕ) (text : List ℕ) (fault : Fault) (mid shown : Feed)
    → ListStands mid n → FindsPacket mid (Err fault) shown → ShowsItem mid (Err fault) shown
    → StepsJob (feed_rest options n mid) text (Err fault) text (feed_rest options n shown)
unfolding list_lines refusal_of
list-fault options n text (Refused r) mid shown stands found shows =
    (ap (items_rest options n) shows.1, refl, ap (items_rest options n) shows.0.items)
list-fault options n text (Read file offset) mid shown stands found shows =
    let only : file ≡ 1 = only-first file (subst (λ (fs : List ℕ). HasFile fs file) stands.files found.of) in
    false≢true (sym stands.reads ∙ (sym (ap mid.can_fail only) ∙ found.can_fail))
list-fault options n text Write mid shown stands found shows = found
list-fault options n text Memory mid shown stands found shows = (refl, ap (items_rest options n) shows.items)

-- it answers that there is none
pub list-end : (options : ListOptions) (n : ℕ) (text : List ℕ) (mid shown : Feed) → ShowsItem mid (Ok None) shown
    → StepsJob (feed_rest options n mid) text (Ok (Some Nothing)) text (feed_rest options n shown)
unfolding list_lines refusal_of
list-end options n text mid shown shows =
    (ap (items_rest options n) shows.1, refl, ap (items_rest options n) shows.0.items)

-- its line is made
pub list-more : (options : ListOptions) (n : ℕ) (text after : List ℕ) (meta : Meta) (mid shown new : Feed)
    → ShowsItem mid (Ok (Some meta)) shown → new.items ≡ drop 1 shown.items
    → after ≡ text ++ packet_line_by options.class options.ipv6 options.form options.most n meta shown.frame
    → StepsJob (feed_rest options n mid) text (Ok None) after (feed_rest options (n + 1) new)
unfolding list_lines refusal_of
list-more options n text after meta mid shown new shows passed wrote =
    let line = packet_line_by options.class options.ipv6 options.form options.most in
    let lines = list_lines line (n + 1) in
    let rest : drop 1 mid.items ≡ new.items = sym (passed ∙ ap (drop 1) shows.0.items) in (
      ap (λ (t : List ℕ). t ++ lines new.items) wrote
          ∙ (append_assoc text (line n meta shown.frame) (lines new.items)
          ∙ ap (λ (t : List ℕ). text ++ t) (sym (ap (list_lines line n) shows.1
          ∙ ap (λ (i : List Item). line n meta shown.frame ++ lines i) rest))),
      sym (ap (λ (i : List Item). end_by (refusal_of i)) shows.1 ∙ ap (λ (i : List Item). end_by (refusal_of i)) rest),
    )
