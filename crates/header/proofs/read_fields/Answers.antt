use mathlib.Core.Path.{ap, sym, ◌∙◌}
use Rattle.refusal.specs.Handed.{handed_on}
use Rattle.grammar.specs.Run.{and_then, run_done}
use Rattle.grammar.specs.Values.{learnt}
use Rattle.header.specs.Header.{fields_of, rates_of, settled}
use Rattle.header.specs.Accepted.{KnownRates, rates_known}
use Rattle.header.proofs.read_fields.Goals as goal

pub returns-in_err-check : goal.returns-in_err-check
unfolding fields_of
returns-in_err-check c =
    ap settled (handed_on _ _ c.from_residual.ensures)
    ∙ and_then _ _ _ _ (ap settled (sym c.in_err-check.was) ∙ c.read_ident.ensures) (sym (run_done _ _ _))

pub returns-in_err-rates : goal.returns-in_err-rates
unfolding fields_of
returns-in_err-rates c =
    ap settled (handed_on _ _ c.from_residual-in_err-rates.ensures)
    ∙ and_then _ _ _ _ (ap settled (sym c.in_ok-check.was) ∙ c.read_ident.ensures)
    (and_then _ _ _ _ (ap settled (sym c.in_err-rates.was) ∙ c.read_rates.ensures) (sym (run_done _ _ _)))

pub read_rest-requires : goal.read_rest-requires
read_rest-requires c = learnt KnownRates rates_of _ _ (ap settled (sym c.in_ok-rates.was) ∙ c.read_rates.ensures) rates_known

pub returns : goal.returns
unfolding fields_of
returns c =
    and_then _ _ _ _ (ap settled (sym c.in_ok-check.was) ∙ c.read_ident.ensures)
    (and_then _ _ _ _ (ap settled (sym c.in_ok-rates.was) ∙ c.read_rates.ensures) c.read_rest.ensures)
