use Rattle.std.proofs.Common.{◌≡◌, ◌-◌, ◌∙◌, ◌++◌, ◌∷◌, [], ap, inl, inr, length, map, refl, sym, take}
use Rattle.std.specs.Prelude.{string_bytes}
use Rattle.cap_tool.proofs.LinesRead.{names-are, read-is}
use Rattle.cap_tool.proofs.ListedNames.{front-names}
use Rattle.cap_tool.specs.DigestLines.{entries_in, entry_of}
use Rattle.cap_tool.specs.ListedNames.{listed_fault}
use Rattle.cap_tool.proofs.runs.run_verified.Goals as goal

pub returns-in-Err-clause-runs : goal.returns-in-Err-clause-runs
returns-in-Err-clause-runs g c =
    let list = c.args.list.now in
    let bytes = c.in_ok-bytes.bytes.items in
    let lines = c.in_ok-lines.lines.items in
    let names = map (λ e. e.name) (map entry_of lines) in
    let texts = c.in-Ok.ensures
    ∙ ap (λ l. l ++ list ∷ []) (ap (map (λ l. string_bytes l.name)) c.as_slice-2.ensures.value ∙ names-are lines) in
    let listed : map (λ n. n.now) c.without_last-named.result.now ≡ names =
    ap (map (λ n. n.now)) (c.without_last-named.ensures ∙ ap (λ l. take (length l - 1) l) c.as_slice-3.ensures.value)
    ∙ front-names c.in-Ok.read.items names list texts in
    let refused = sym (c.check_listed.ensures.answer ∙ ap (listed_fault c.args.job.now.task list) listed)
    ∙ c.in-Err.is in
    inl (
      c.from.result,
      refl,
      inr (inr (
        bytes,
        map entry_of lines,
        c.in-Err.fault,
        c.in_ok-bytes.ensures.read,
        read-is lines ∙ (c.in_ok-lines.ensures.lines ∙ ap entries_in c.as_slice.ensures.value),
        refused,
        ap (λ stop. stop.outcome) c.from.ensures,
      )),
    )

pub returns-clause-runs : goal.returns-clause-runs
returns-clause-runs g c =
    let list = c.args.list.now in
    let bytes = c.in_ok-bytes.bytes.items in
    let lines = c.in_ok-lines.lines.items in
    let names = map (λ e. e.name) (map entry_of lines) in
    let texts = c.in-Ok.ensures
    ∙ ap (λ l. l ++ list ∷ []) (ap (map (λ l. string_bytes l.name)) c.as_slice-2.ensures.value ∙ names-are lines) in
    let listed : map (λ n. n.now) c.without_last-named.result.now ≡ names =
    ap (map (λ n. n.now)) (c.without_last-named.ensures ∙ ap (λ l. take (length l - 1) l) c.as_slice-3.ensures.value)
    ∙ front-names c.in-Ok.read.items names list texts in
    inr (record {
      bytes = bytes;
      entries = map entry_of lines;
      reads = c.in_ok-bytes.ensures.read;
      lines = read-is lines ∙ (c.in_ok-lines.ensures.lines ∙ ap entries_in c.as_slice.ensures.value);
      taken = sym (c.check_listed.ensures.answer ∙ ap (listed_fault c.args.job.now.task list) listed)
          ∙ c.in_default-check_listed.is;
      runs = rw c.as_slice-4.ensures.value at c.run_lines.ensures.runs;
    })
