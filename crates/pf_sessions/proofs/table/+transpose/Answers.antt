use Rattle.std.proofs.Common.{rules, ◌≡◌, ◌∙◌, ◌<◌, ◌∷◌, List, Vec, ap, length, subst, sym}
use Rattle.std.proofs.lemmas.Result.{IfOk-weaker}
use Rattle.std.specs.Global.{Global}
use Rattle.pf_links.specs.declared.output.LinkOut.{LinkOut}
use Rattle.pf_pool.proofs.Lists.{none_left}
use Rattle.pf_sessions.specs.Links.{table_rows}
use Rattle.pf_sessions.specs.Table.{IsTable, transpose, with_entries}
use Rattle.pf_sessions.proofs.Transposes.{columns_fit, front_and_rest, joined, others_fewer, others_have, others_table, rows_have, transpose_none}
use Rattle.pf_sessions.proofs.table.+transpose.Goals as goal

pub returns-then-is_empty : goal.returns-then-is_empty
returns-then-is_empty t c =
    let none = none_left c.args.table.items (search rules) in
    ap table_rows none ∙ sym transpose_none ∙ ap (λ (rows : List (Vec LinkOut Global)). transpose (table_rows rows)) (sym none)

pub split_first_entries-requires : goal.split_first_entries-requires
split_first_entries-requires t c =
    let all = c.args.table.items in
    let first = c.remove-first.result in
    let rest = c.remove-first.new.self.items in
    let some : 0 < length all = search rules in
    let split : all ≡ first ∷ rest = front_and_rest all first rest some c.remove-first.ensures.value c.remove-first.ensures.items in
    rows_have rest (others_have first.items (table_rows rest) (subst (λ l. IsTable (table_rows l)) split c.requires))

pub transpose-requires : goal.transpose-requires
transpose-requires t c =
    let all = c.args.table.items in
    let first = c.remove-first.result in
    let rest = c.remove-first.new.self.items in
    let some : 0 < length all = search rules in
    let split : all ≡ first ∷ rest = front_and_rest all first rest some c.remove-first.ensures.value c.remove-first.ensures.items in
    let fewer = others_fewer all first rest split c.in_ok-column.others.items c.in_ok-column.ensures.rows in
    let table = others_table first.items (table_rows rest) (subst (λ l. IsTable (table_rows l)) split c.requires) in
    (search (rules, fewer), subst IsTable (sym c.in_ok-column.ensures.rows) table)

pub join_first_entries-requires : goal.join_first_entries-requires
join_first_entries-requires t c =
    let all = c.args.table.items in
    let first = c.remove-first.result in
    let rest = c.remove-first.new.self.items in
    let some : 0 < length all = search rules in
    let split : all ≡ first ∷ rest = front_and_rest all first rest some c.remove-first.ensures.value c.remove-first.ensures.items in
    columns_fit all first rest split c.in_ok-column.others.items c.in_ok-columns.columns.items c.requires c.in_ok-column.ensures.rows c.in_ok-columns.ensures

pub returns : goal.returns
returns t c =
    let all = c.args.table.items in
    let first = c.remove-first.result in
    let rest = c.remove-first.new.self.items in
    let some : 0 < length all = search rules in
    let split : all ≡ first ∷ rest = front_and_rest all first rest some c.remove-first.ensures.value c.remove-first.ensures.items in
    let column = c.in_ok-column.column.items in
    let others = c.in_ok-column.others.items in
    let columns = c.in_ok-columns.columns.items in
    IfOk-weaker c.join_first_entries.result (λ (v : Vec (Vec LinkOut Global) Global). table_rows v.items ≡ column ∷ with_entries first.items (table_rows columns))
    (λ (v : Vec (Vec LinkOut Global) Global). table_rows v.items ≡ transpose (table_rows all))
    (λ v is. joined all first rest split column others columns v.items c.requires c.in_ok-column.ensures.column c.in_ok-column.ensures.rows c.in_ok-columns.ensures is)
    c.join_first_entries.ensures
