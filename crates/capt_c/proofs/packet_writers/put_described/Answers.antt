use Rattle.std.proofs.Common.{refl, sym, ap, ◌∙◌, Err}
use Rattle.std.proofs.lemmas.Result.{err_from_is_err_and}
use Rattle.cap_bytes.specs.declared.faults.Fault.TheVariants.{Refused}
use Rattle.cap_bytes.specs.declared.faults.Rule.TheVariants.{InterfaceLimit}
use Rattle.cap_write.proofs.Forming.{OnOk-map}
use Rattle.cap_write.proofs.Written.{Prints-unnumbered}
use Rattle.cap_write.specs.Numbering.{refusal_at, refusal_by}
use Rattle.capt_c.proofs.Described.{Prints-all, Prints-new, Prints-new-head, Prints-put, Shared, fault-full, fault-room}
use Rattle.capt_c.proofs.Described.{is-new, with-new}
use Rattle.capt_c.specs.Writing.{shared_in}
use Rattle.capt_c.proofs.packet_writers.put_described.Goals as goal

pub returns-then-is_full-clause-text : goal.returns-then-is_full-clause-text
returns-then-is_full-clause-text c =
    let meta = c.args.meta.now in
    let list = c.args.interfaces.now.list.items in
    let full = fault-full list meta c.args.fields.units c.requires.units (sym c.is_full.ensures ∙ c.if-is_full.true)
    (is-new list meta c.requires.new) in
    rw c.refused.ensures (Prints-unnumbered c.args.order (shared_in c.args.interfaces.now)
    (shared_in c.args.interfaces.now) meta c.args.frame.now _ (Refused (refusal_at meta InterfaceLimit))
    (InterfaceLimit, full, refl, refl))

pub returns-in_err-put_interface-clause-text : goal.returns-in_err-put_interface-clause-text
returns-in_err-put_interface-clause-text c =
    let p = err_from_is_err_and c.from_residual.result c.from_residual.ensures.1 in
    let meta = c.args.meta.now in
    let list = c.args.interfaces.now.list.items in
    let none = fault-room list meta c.args.fields.units c.requires.units (sym c.is_full.ensures ∙ c.if-is_full.false) in
    rw (p.1, p.2) (Prints-new-head c.args.order list meta c.args.frame.now c.args.sink.now.bytes.items
    c.put_interface.new.writer.bytes.items c.args.fields.units c.in_err-put_interface.field-0.0 c.requires.units none
    (is-new list meta c.requires.new) c.in_err-put_interface.ensures.fault (c.in_err-put_interface.ensures.bytes refl))

pub returns-in_err-put_packet-clause-text : goal.returns-in_err-put_packet-clause-text
returns-in_err-put_packet-clause-text c =
    let p = err_from_is_err_and c.from_residual-in_err-put_packet.result c.from_residual-in_err-put_packet.ensures.1 in
    let meta = c.args.meta.now in
    let fields = c.args.fields in
    let list = c.args.interfaces.now.list.items in
    let none = fault-room list meta fields.units c.requires.units (sym c.is_full.ensures ∙ c.if-is_full.false) in
    let fault = c.in_err-put_packet.field-0.0 in
    let mid = c.put_interface.new.writer.bytes.items in
    let new = c.put_packet.new.writer.bytes.items in
    rw (p.1, p.2) (Prints-new c.args.order list meta c.args.frame.now c.args.sink.now.bytes.items mid new
    fields.interface fields.units fields.original (Err fault) c.requires.units none
    (is-new list meta c.requires.new) c.requires.number c.requires.original
    (c.in_ok-put_interface.ensures.bytes refl)
    (Prints-put _ mid new _ (Err fault) (ap (refusal_by meta) none) c.in_err-put_packet.ensures.fault
    (c.in_err-put_packet.ensures.bytes refl)))

pub returns-clause-text : goal.returns-clause-text
returns-clause-text c =
    let meta = c.args.meta.now in
    let fields = c.args.fields in
    let list = c.args.interfaces.now.list.items in
    let none = fault-room list meta fields.units c.requires.units (sym c.is_full.ensures ∙ c.if-is_full.false) in
    let mid = c.put_interface.new.writer.bytes.items in
    let new = c.put_packet.new.writer.bytes.items in
    Prints-new c.args.order list meta c.args.frame.now c.args.sink.now.bytes.items mid new
    fields.interface fields.units fields.original c.add.result c.requires.units none
    (is-new list meta c.requires.new) c.requires.number c.requires.original
    (c.in_ok-put_interface.ensures.bytes refl)
    (Prints-all _ mid new _ c.add.result (ap (refusal_by meta) none) c.add.ensures.fault
    (c.in_ok-put_packet.ensures.bytes refl))

pub returns-clause-origins : goal.returns-clause-origins
returns-clause-origins c =
    let meta = c.args.meta.now in
    let list = c.args.interfaces.now.list.items in
    let new = is-new list meta c.requires.new in
    OnOk-map c.add.result _ _ (λ added. (
      ap Shared added ∙ with-new list meta new,
      fault-room list meta c.args.fields.units c.requires.units (sym c.is_full.ensures ∙ c.if-is_full.false),
    )) c.add.ensures.added
