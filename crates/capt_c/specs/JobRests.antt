-- What a job still gives: bytes, and then how it ends.
use Rattle.std.specs.Prelude.{◌≡◌, ℕ, List, [], ◌++◌, Option, Some, None, Result, Ok, Err}
use Rattle.cap_bytes.specs.declared.faults.Fault.{Fault}
use Rattle.cap_bytes.specs.declared.faults.Fault.TheVariants.{Refused, Read, Write, Memory}
use Rattle.cap_bytes.specs.declared.faults.Refusal.{Refusal}
use Rattle.cap_source.specs.Feed.{Feed, Item, refusal_of}
use Rattle.cap_commands.specs.ClassText.{packet_line_by}
use Rattle.cap_commands.specs.ListText.{list_lines}
use Rattle.cap_commands.specs.declared.jobs.Finding.{Finding}
use Rattle.cap_commands.specs.declared.jobs.Finding.TheVariants.{Nothing}
use Rattle.cap_commands.specs.declared.list.ListOptions.{ListOptions}
use Rattle.capt_c.specs.declared.job_ends.JobEnd.{JobEnd}
use Rattle.capt_c.specs.declared.job_ends.JobEnd.TheVariants as ends

-- the bytes that come, one after another, and how the job ends after them
pub record JobRest : Type 0 where
  pub text : List ℕ
  pub end : JobEnd

-- how a job ends that finds nothing, but that may be refused
abbrev pub end_by : Option Refusal → JobEnd
end_by None = ends.Found Nothing
end_by (Some refusal) = ends.Refused refusal

-- what it finds
abbrev pub found_by_end : JobEnd → Finding
found_by_end (ends.Found finding) = finding
found_by_end (ends.Refused refusal) = Nothing

-- what the command returns that ends so
abbrev pub answer_by_end : JobEnd → Result Unit Fault
answer_by_end (ends.Found finding) = Ok tt
answer_by_end (ends.Refused refusal) = Err (Refused refusal)

-- what the lines of packets give, from that number on
abbrev pub items_rest : ListOptions → ℕ → List Item → JobRest
items_rest options number items = record {
  text = list_lines (packet_line_by options.class options.ipv6 options.form options.most) number items;
  end = end_by (refusal_of items);
}

-- what the lines of a feed's packets give
abbrev pub feed_rest : ListOptions → ℕ → Feed → JobRest
feed_rest options number feed = items_rest options number feed.items

-- A step of a job was made: some of the bytes to come, or none, were put behind those that were made before. Or it has
-- ended so, or is refused, or no memory was found; then the same is to come.
abbrev pub StepsJob : JobRest → List ℕ → Result (Option Finding) Fault → List ℕ → JobRest → Type 0
StepsJob old before (Ok None) after new = (after ++ new.text ≡ before ++ old.text) × (new.end ≡ old.end)
StepsJob old before (Ok (Some finding)) after new =
    (old ≡ record { text = []; end = ends.Found finding }) × (after ≡ before) × (new ≡ old)
StepsJob old before (Err (Refused refusal)) after new =
    (old ≡ record { text = []; end = ends.Refused refusal }) × (after ≡ before) × (new ≡ old)
StepsJob old before (Err (Read file offset)) after new = ⊥
StepsJob old before (Err Write) after new = ⊥
StepsJob old before (Err Memory) after new = (after ≡ before) × (new ≡ old)
