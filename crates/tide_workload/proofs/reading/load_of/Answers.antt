use Rattle.std.proofs.Common.{map, arith, List, Bor}
use Rattle.toml.specs.View.{view}
use Rattle.toml.specs.declared.value.Value.{Value}
use Rattle.tide_text.specs.work.OpArguments.{limits_with}
use Rattle.tide_workload.specs.Scripts.{text_or_none}
use Rattle.tide_workload.proofs.ScriptLemmas.{scripts_within}
use Rattle.tide_workload.proofs.ScriptLemmas.{scripts_sized}
use Rattle.tide_workload.proofs.reading.load_of.Goals as goal

pub new-requires : goal.new-requires
new-requires c =
    let made = c.in_ok-scripts.ensures in
    let read = rw c.new-limits.ensures at made.scripts in
    record {
      limits = c.requires.settings;
      keys = c.requires.keys;
      paths = c.requires.paths;
      sized = scripts_sized c.in_ok-scripts.scripts.items (omega (arith, made.count, c.requires.some)) (omega (arith, made.count, c.requires.few)) made.short;
      operations = scripts_within (limits_with c.args.settings c.args.keys) (map (λ (texts : Bor (List Value)). map (λ (value : Value). text_or_none (view value)) texts.now) c.args.texts.now) (map (λ ops. ops.items) c.in_ok-scripts.scripts.items) read;
    }
