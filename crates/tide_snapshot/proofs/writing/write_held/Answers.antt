-- The parts make the text one after another, and a failed write leaves a part of it.
use Rattle.std.proofs.Common.{List, subst}
use Rattle.std.specs.Io.KnownBytes.{Appends}
use Rattle.tide_io.specs.Faults.{AppendsPart}
use Rattle.tide_io.proofs.ChainLaws.{Appends-then, AppendsPart-then, AppendsPart-grown, OnErr-from, OnErr-then, OnOk-then}
use Rattle.tide_retained.specs.declared.contents.Keyed.{Keyed}
use Rattle.tide_snapshot.specs.Line.{body_text, group_text, properties_text}
use Rattle.tide_snapshot.proofs.writing.write_held.Goals as goal

pub returns-in_err-write_head-clause-part : goal.returns-in_err-write_head-clause-part
returns-in_err-write_head-clause-part g c =
    OnErr-from c.from_residual.result
    (AppendsPart-grown _ _ _ (group_text c.args.held.now.group)
    (AppendsPart-grown _ _ _ (properties_text c.args.names.now c.args.held.now.properties.items)
    (AppendsPart-grown _ _ _ (body_text c.args.held.now.class c.args.held.now.slots.items c.args.held.now.pairs.items) c.in_err-write_head.ensures.part)))

pub returns-in_err-write_body-clause-part : goal.returns-in_err-write_body-clause-part
returns-in_err-write_body-clause-part g c =
    let both = AppendsPart-then _ _ _ _ _ c.in_ok-write_head.ensures.whole c.in_err-write_body.ensures.part in
    OnErr-from c.from_residual-in_err-write_body.result
    (AppendsPart-grown _ _ _ (group_text c.args.held.now.group) (AppendsPart-grown _ _ _ (properties_text c.args.names.now c.args.held.now.properties.items) both))

pub returns-in_err-write_properties-clause-part : goal.returns-in_err-write_properties-clause-part
returns-in_err-write_properties-clause-part g c =
    let both = Appends-then _ _ _ _ _ c.in_ok-write_head.ensures.whole c.in_ok-write_body.ensures.whole in
    let properties = subst (λ (list : List Keyed). AppendsPart (g.K.Sink.held c.write_body.new.out) (g.K.Sink.held c.write_properties.new.out) (properties_text c.args.names.now list))
    c.as_slice.ensures.value c.in_err-write_properties.ensures.part in
    OnErr-from c.from_residual-in_err-write_properties.result
    (AppendsPart-grown _ _ _ (group_text c.args.held.now.group) (AppendsPart-then _ _ _ _ _ both properties))

pub returns-clause-whole : goal.returns-clause-whole
returns-clause-whole g c =
    let both = Appends-then _ _ _ _ _ c.in_ok-write_head.ensures.whole c.in_ok-write_body.ensures.whole in
    let properties = subst (λ (list : List Keyed). Appends (g.K.Sink.held c.write_body.new.out) (g.K.Sink.held c.write_properties.new.out) (properties_text c.args.names.now list))
    c.as_slice.ensures.value c.in_ok-write_properties.ensures.whole in
    let three = Appends-then _ _ _ _ _ both properties in
    OnOk-then _ _ _ _ _ c.write_group.result three c.write_group.ensures.whole

pub returns-clause-part : goal.returns-clause-part
returns-clause-part g c =
    let both = Appends-then _ _ _ _ _ c.in_ok-write_head.ensures.whole c.in_ok-write_body.ensures.whole in
    let properties = subst (λ (list : List Keyed). Appends (g.K.Sink.held c.write_body.new.out) (g.K.Sink.held c.write_properties.new.out) (properties_text c.args.names.now list))
    c.as_slice.ensures.value c.in_ok-write_properties.ensures.whole in
    let three = Appends-then _ _ _ _ _ both properties in
    OnErr-then _ _ _ _ _ c.write_group.result three c.write_group.ensures.part
