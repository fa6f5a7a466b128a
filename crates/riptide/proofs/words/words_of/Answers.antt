-- The two words that stand for a command line that isn't all text are refused.
use Rattle.std.proofs.Common.{rules, ◌≡◌, ◌∙◌, ap, [], ◌∷◌, map, codes, string_bytes}
use Rattle.tide_options.specs.Options.{reads_options}
use Rattle.tide_options.proofs.Reading.{stray_word}
use Rattle.riptide.proofs.words.words_of.Goals as goal

pub returns-in_ok-push-in-Err-2-2-clause-refused : goal.returns-in_ok-push-in-Err-2-2-clause-refused
returns-in_ok-push-in-Err-2-2-clause-refused c = λ _.
    let items : map string_bytes c.push-in-Err-2-2.new.self.items ≡ codes "riptide" ∷ codes "?" ∷ [] = search rules in
    ap reads_options items ∙ stray_word
