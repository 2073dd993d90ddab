use mathlib.Core.Path.{sym}
use Rattle.grammar.specs.Run.{field_then, run_done}
use borrow.Author.Tests.{eq-eqb, ne_eqb}
use Rattle.header.specs.Header.{rates_of}
use Rattle.header.proofs.read_rates.Goals as goal

pub returns-then-bitrate : goal.returns-then-bitrate
unfolding rates_of
returns-then-bitrate c = field_then _ _ _ _ c.field-bitrate.ensures.is (rw c.if-bitrate.true (sym (run_done _ _ _)))

pub returns-then-samplerate-eq3 : goal.returns-then-samplerate-eq3
unfolding rates_of
returns-then-samplerate-eq3 c =
    field_then _ _ _ _ c.field-bitrate.ensures.is
    (rw c.if-bitrate.false
    (field_then _ _ _ _ c.field-samplerate.ensures.is
    (rw (eq-eqb _ _ c.if-samplerate-eq3.true) (sym (run_done _ _ _)))))

pub returns : goal.returns
unfolding rates_of
returns c =
    field_then _ _ _ _ c.field-bitrate.ensures.is
    (rw c.if-bitrate.false
    (field_then _ _ _ _ c.field-samplerate.ensures.is
    (rw (ne_eqb _ _ c.if-samplerate-eq3.false)
    (field_then _ _ _ _ c.field-padding.ensures.is (sym (run_done _ _ _))))))
