use Rattle.std.proofs.Common.{rules}
use Rattle.std.proofs.Common.{sym, ap, ◌∙◌}
use Rattle.probe.specs.Answers.{call_of, of_holds, of_taken, of_moved, of_told, of_sync}
use Rattle.probe.proofs.Calls.{call_other}
use Rattle.probe.proofs.reading.reader_call.Goals as goal

pub returns-in-0 : goal.returns-in-0
unfolding call_of
returns-in-0 c = rw c.in-0.is (c.of_holds.ensures ∙ ap (of_holds _) c.has.ensures)

pub returns-in-1 : goal.returns-in-1
unfolding call_of
returns-in-1 c = rw c.in-1.is (c.of_holds-in-1.ensures ∙ ap (of_holds _) c.has_ended.ensures)

pub returns-in-2 : goal.returns-in-2
unfolding call_of
returns-in-2 c = rw c.in-2.is (c.of_read.ensures ∙ ap (of_taken _) c.read.ensures)

pub returns-in-3 : goal.returns-in-3
unfolding call_of
returns-in-3 c = rw c.in-3.is (c.of_moved.ensures ∙ ap (of_moved _) c.align.ensures)

pub returns-in-4 : goal.returns-in-4
unfolding call_of
returns-in-4 c = rw c.in-4.is (c.of_moved-in-4.ensures ∙ ap (of_moved _) c.skip.ensures)

pub returns-in-5 : goal.returns-in-5
unfolding call_of
returns-in-5 c = rw c.in-5.is (c.of_skipped.ensures ∙ ap (of_taken _) c.skip_bytes.ensures)

pub returns-in-6 : goal.returns-in-6
unfolding call_of
returns-in-6 c = rw c.in-6.is (c.of_told.ensures ∙ ap (of_told _) c.tell.ensures)

pub returns-in_default : goal.returns-in_default
returns-in_default c =
    c.of_sync.ensures ∙ ap (of_sync _) c.find_frame_sync.ensures
    ∙ sym (call_other _ _ _ _ (λ e. search rules) (λ e. search rules) (λ e. search rules) (λ e. search rules) (λ e. search rules) (λ e. search rules) (λ e. search rules))
