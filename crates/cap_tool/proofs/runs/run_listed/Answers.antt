use Rattle.std.proofs.Common.{◌≡◌, ◌-◌, ◌∙◌, ◌++◌, ◌∷◌, [], ap, inl, inr, length, map, refl, sym, take}
use Rattle.std.specs.Prelude.{string_bytes}
use Rattle.cap_tool.proofs.ListedNames.{names-read}
use Rattle.cap_tool.specs.ListedNames.{listed_fault, listed_names}
use Rattle.cap_tool.proofs.runs.run_listed.Goals as goal

pub returns-in-Err-clause-runs : goal.returns-in-Err-clause-runs
returns-in-Err-clause-runs g c =
    let list = c.args.list.now in
    let bytes = c.in_ok-bytes.bytes.items in
    let listed : map (λ n. n.now) c.without_last-listed.result.now ≡ listed_names bytes =
    names-read bytes list _ c.in-Ok-texts_of.read.items c.without_last-listed.result.now
    (c.in-Ok.ensures ∙ ap (λ b. listed_names b ++ list ∷ []) c.as_slice.ensures.value)
    (c.in-Ok-texts_of.ensures ∙ ap (map string_bytes) c.as_slice-2.ensures.value)
    (c.without_last-listed.ensures ∙ ap (λ l. take (length l - 1) l) c.as_slice-3.ensures.value) in
    let refused = sym (c.check_listed.ensures.answer ∙ ap (listed_fault c.args.job.now.task list) listed)
    ∙ c.in-Err.is in
    inl (
      c.from.result,
      refl,
      inr (bytes, c.in-Err.fault, c.in_ok-bytes.ensures.read, refused, ap (λ stop. stop.outcome) c.from.ensures),
    )

pub returns-clause-runs : goal.returns-clause-runs
returns-clause-runs g c =
    let list = c.args.list.now in
    let bytes = c.in_ok-bytes.bytes.items in
    let listed : map (λ n. n.now) c.without_last-listed.result.now ≡ listed_names bytes =
    names-read bytes list _ c.in-Ok-texts_of.read.items c.without_last-listed.result.now
    (c.in-Ok.ensures ∙ ap (λ b. listed_names b ++ list ∷ []) c.as_slice.ensures.value)
    (c.in-Ok-texts_of.ensures ∙ ap (map string_bytes) c.as_slice-2.ensures.value)
    (c.without_last-listed.ensures ∙ ap (λ l. take (length l - 1) l) c.as_slice-3.ensures.value) in
    inr (record {
      bytes = bytes;
      reads = c.in_ok-bytes.ensures.read;
      taken = sym (c.check_listed.ensures.answer ∙ ap (listed_fault c.args.job.now.task list) listed)
          ∙ c.in_default-check_listed.is;
      runs = rw listed at c.run_checks.ensures.runs;
    })
