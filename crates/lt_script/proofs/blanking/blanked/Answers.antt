use Rattle.lt_script.proofs.Numbered.{cells_insert, cells_delete, cells_replace, cells_print}
use Rattle.lt_script.proofs.blanking.blanked.Goals as goal

pub returns-in_ok-body-in-Insert-clause-cells : goal.returns-in_ok-body-in-Insert-clause-cells
returns-in_ok-body-in-Insert-clause-cells c = cells_insert c.args.statement _ _ _ _ _ c.in-Insert.is c.requires c.in_ok-head-in-Insert.ensures.cells c.in_ok-body-in-Insert.ensures.cells

pub returns-in_ok-body-in-Delete-clause-cells : goal.returns-in_ok-body-in-Delete-clause-cells
returns-in_ok-body-in-Delete-clause-cells c = cells_delete c.args.statement _ _ _ _ _ c.in-Delete.is c.requires c.in_ok-head-in-Delete.ensures.cells c.in_ok-body-in-Delete.ensures.cells

pub returns-in_ok-body-in-Replace-clause-cells : goal.returns-in_ok-body-in-Replace-clause-cells
returns-in_ok-body-in-Replace-clause-cells c =
    cells_replace c.args.statement _ _ _ _ _ _ _ c.in-Replace.is c.requires c.in_ok-gone-in-Replace.ensures.cells c.in_ok-come-in-Replace.ensures.cells c.in_ok-body-in-Replace.ensures.cells

pub returns-in_ok-body-in-Print-clause-cells : goal.returns-in_ok-body-in-Print-clause-cells
returns-in_ok-body-in-Print-clause-cells c = cells_print c.args.statement _ _ _ _ _ c.in-Print.is c.requires c.in_ok-terms-in-Print.ensures.cells c.in_ok-body-in-Print.ensures.cells
