-- What the program answers where there are words: each clause is that of `riptide`, whose answer it is.
use Rattle.std.proofs.Common.{rules}
use Rattle.tide_run.proofs.process.answer.Goals as goal

pub returns-clause-usage : goal.returns-clause-usage
returns-clause-usage g c = λ is. rw (c.in-Ok.is, ← c.as_slice-words.ensures.value) (c.riptide.ensures.usage is)

pub returns-clause-bad_input : goal.returns-clause-bad_input
returns-clause-bad_input g c = λ is. rw (c.in-Ok.is, ← c.as_slice-words.ensures.value) (c.riptide.ensures.bad_input is)

pub returns-clause-read_fault : goal.returns-clause-read_fault
returns-clause-read_fault g c = λ is. rw (c.in-Ok.is, ← c.as_slice-words.ensures.value) (c.riptide.ensures.read_fault is)

pub returns-clause-write_fault : goal.returns-clause-write_fault
returns-clause-write_fault g c = λ is. c.riptide.ensures.write_fault is

pub returns-clause-ran : goal.returns-clause-ran
returns-clause-ran g c = λ is. rw (c.in-Ok.is, ← c.as_slice-words.ensures.value) (c.riptide.ensures.ran is)

pub returns-clause-no_outcome : goal.returns-clause-no_outcome
returns-clause-no_outcome g c = c.riptide.ensures.no_outcome

pub returns-clause-printed : goal.returns-clause-printed
returns-clause-printed g c = λ is. rw (c.in-Ok.is, ← c.as_slice-words.ensures.value) (c.riptide.ensures.printed is)

pub returns-clause-printed_part : goal.returns-clause-printed_part
returns-clause-printed_part g c = λ is. rw (c.in-Ok.is, ← c.as_slice-words.ensures.value) (c.riptide.ensures.printed_part is)

pub returns-clause-nothing_printed : goal.returns-clause-nothing_printed
returns-clause-nothing_printed g c = search rules depth 1

pub returns-clause-refused : goal.returns-clause-refused
returns-clause-refused g c = search rules depth 1

pub returns-clause-unread : goal.returns-clause-unread
returns-clause-unread g c = λ is. c.riptide.ensures.unread is

pub returns-clause-accepts : goal.returns-clause-accepts
returns-clause-accepts g c = rw (c.in-Ok.is, ← c.as_slice-words.ensures.value) c.riptide.ensures.accepts

pub returns-clause-refuses : goal.returns-clause-refuses
returns-clause-refuses g c = search rules depth 1

pub returns-clause-made : goal.returns-clause-made
returns-clause-made g c = rw (c.in-Ok.is, ← c.as_slice-words.ensures.value) c.riptide.ensures.made

pub returns-clause-told : goal.returns-clause-told
returns-clause-told g c = search rules depth 1
