-- What was written of a script that wasn't run to its end: a front of the report that its bytes have.
use Rattle.std.proofs.Common.{◌++◌, [], Bool, List, ℕ, false, true, refl, sym, ap, subst, ◌∙◌, append-nil, append_assoc}
use Rattle.std.specs.Prelude.{Option, fold}
use Rattle.std.proofs.lemmas.List.Sums.{fold-append}
use Rattle.std.proofs.KnownBytes.{Appends-trans}
use Rattle.std.specs.Io.KnownBytes.{Appends}
use Rattle.lt_model.specs.declared.syntax.Item.{Item}
use Rattle.lt_model.specs.Script.{End, Fault, Script}
use Rattle.lt_model.specs.Report.{close_text, opening, report, step, World}
use Rattle.lt_report.specs.Puts.{AppendsFront}
use Rattle.lt_report.proofs.Going.{Did}
use Rattle.lt_script.proofs.Totality.{BeginsReading}
use Rattle.lt_blocks.specs.declared.block.Block.{Block}
use Rattle.lt_runs.specs.Reports.{IsFrontOf, IsReportOf}
use Rattle.lt_world.specs.Traces.{AreKept}
use Rattle.lt_world.specs.Lines.{said_all}
use Rattle.lt_runs.proofs.Answered.{fold_says}
use Rattle.lt_world.proofs.Said.{report_goes_on}
use Rattle.lt_world.proofs.Writing.{front_more, front_so_far}

abbrev Bytes : Type 0
Bytes = Option (List ℕ)

-- what begins with some items begins with the first of them
pub begins_less : (bytes : List ℕ) (items more : List Item) → BeginsReading bytes (items ++ more) → BeginsReading bytes items
begins_less bytes items more x = record {
  more = more ++ x.more;
  close = x.close;
  is_script = subst (λ (is : List Item). Script bytes is x.close) (append_assoc items more x.more) x.is_script;
}

module _ (marks : Bool) (bytes : List ℕ) (items : List Item) (a b : Bytes) (s t : ℕ) (did : Did a b s t (fold (step marks) opening items).text) where
  -- behind these items
  pub front_here : BeginsReading bytes items → IsFrontOf marks bytes a b
  front_here x =
      let rest = report_goes_on marks items x.more x.close in
      record {
        items = items ++ x.more;
        close = x.close;
        script = x.is_script;
        written = front_so_far a b s t (fold (step marks) opening items).text (report marks (items ++ x.more) x.close) rest.more did rest.is;
      }

  -- and where a front of the next items' was written
  pub front_next : (next : List Item) (c : Bytes) → BeginsReading bytes (items ++ next) → AppendsFront b c (said_all marks (fold (step marks) opening items) next) → IsFrontOf marks bytes a c
  front_next next c x f =
      let rest = report_goes_on marks (items ++ next) x.more x.close in
      let all : List ℕ = report marks ((items ++ next) ++ x.more) x.close in
      let here : World = fold (step marks) opening items in
      record {
        items = (items ++ next) ++ x.more;
        close = x.close;
        script = x.is_script;
        written =
            front_more a b c s t here.text (said_all marks here next) all rest.more did f
            (rest.is ∙ ap (λ (w : World). w.text ++ rest.more) (fold-append (step marks) opening items next) ∙ ap (λ (u : List ℕ). u ++ rest.more) (fold_says marks here next));
      }

  -- or of the fault behind them
  pub front_fault : (line code : ℕ) (c : Bytes) → Script bytes items (Fault line code) → AppendsFront b c (close_text (Fault line code)) → IsFrontOf marks bytes a c
  front_fault line code c is_script f = record {
    items = items;
    close = Fault line code;
    script = is_script;
    written = front_more a b c s t (fold (step marks) opening items).text (close_text (Fault line code)) (report marks items (Fault line code)) [] did f (sym (append-nil (report marks items (Fault line code))));
  }

  -- all of it, at the end
  pub report_ends : (trace : Bool) (blocks : List Block) → AreKept trace marks items blocks → Script bytes items End → IsReportOf trace blocks marks bytes false a b
  report_ends trace blocks kept is_script = record {
    items = items;
    close = End;
    script = is_script;
    written = subst (Appends a b) (sym (append-nil (fold (step marks) opening items).text)) did.written;
    told = refl;
    kept = kept;
  }

  pub report_faults : (trace : Bool) (blocks : List Block) → AreKept trace marks items blocks → (line code : ℕ) (c : Bytes) → Script bytes items (Fault line code) → Appends b c (close_text (Fault line code)) → IsReportOf trace blocks marks bytes true a c
  report_faults trace blocks kept line code c is_script more = record {
    items = items;
    close = Fault line code;
    script = is_script;
    written = Appends-trans a b c (fold (step marks) opening items).text (close_text (Fault line code)) did.written more;
    told = refl;
    kept = kept;
  }
