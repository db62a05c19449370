use Rattle.std.proofs.Common.{◌≡◌, Ok, length, option_map, vec_len, arith}
use Rattle.std.proofs.lemmas.Grind.{common_steps}
use Rattle.std.specs.Option.{option_or}
use Rattle.clap.specs.Words.{found_of, rows_of}
use Rattle.cap_line.specs.CommandLine.{files_in, names_file_in, out_in}
use Rattle.cap_line.specs.Jobs.{inputs_fault}
use Rattle.cap_line.proofs.Naming.{named-refused, taken-is}
use Rattle.cap_line.proofs.words.job_of.Goals as goal

pub returns : goal.returns
returns c =
    let rows = rows_of (found_of c.args.matches.now) in
    let taken : inputs_fault c.in-Some.task (files_in rows) (names_file_in rows) (out_in rows) ≡ Ok tt =
    grind (arith, common_steps) in
    let count : length (files_in rows) ≡ vec_len c.in-Ok.files = grind (arith, common_steps) in
    let named : option_or (option_map (λ v. v.now) c.text_of-10.result) (option_map (λ l. l.now) c.text_of-9.result)
    ≡ names_file_in rows = grind (arith, common_steps) in
    let whole = taken-is c.in-Some.task (files_in rows) (names_file_in rows) _ (out_in rows) _ taken count named in (
      c.in-Some.task,
      grind (arith, common_steps),
      taken,
      record {
        task_is = grind (arith, common_steps);
        files = grind (arith, common_steps);
        allow_cut = grind (arith, common_steps);
        order = grind (arith, common_steps);
        to = grind (arith, common_steps);
        unit = grind (arith, common_steps);
        out = grind (arith, common_steps);
        explain = grind (arith, common_steps);
        whole = grind (arith, common_steps);
        json = grind (arith, common_steps);
        class = grind (arith, common_steps);
        ipv6 = grind (arith, common_steps);
        digests = grind (arith, common_steps);
        names = grind (arith, common_steps);
        shares = grind (arith, common_steps);
        skips = grind (arith, common_steps);
        list = grind (arith, common_steps);
        verify = grind (arith, common_steps);
        count = grind (arith, common_steps);
        top = grind (arith, common_steps);
        time = grind (arith, common_steps);
        ignored = grind (arith, common_steps);
      },
      record {
        some = whole.0;
        listed = whole.1;
        most = whole.2;
        taken = grind (arith, common_steps);
        replaced = grind (arith, common_steps);
        shared = grind (arith, common_steps);
        skipped = grind (arith, common_steps);
        in_unit = grind (arith, common_steps);
      },
      grind (arith, common_steps),
    )

pub returns-in_err-check_named : goal.returns-in_err-check_named
returns-in_err-check_named c = grind (arith, common_steps, named-refused)
