use Rattle.px_num.proofs.Basics.{arith, ◌<◌, ◌+◌, ◌++◌, [], ◌∙◌, ap, refl, append_assoc, length, take, drop, get_or}
use Rattle.px_num.proofs.Basics.{flat_map, take_all}
use Rattle.px_listing.proofs.Words.{canonical_listing, end_line, listing_head, ListingView, macro_line, on_err}
use Rattle.std.proofs.lemmas.List.{append-nil}
use Rattle.px_listing.proofs.PieceLaws.{err_cut, ok_all, puts_both, puts_cut}
use Rattle.px_listing.proofs.RowLaws.{behind, listed_cut, listed_more}
use Rattle.px_macro.specs.declared.operation.Macro.TheVariants as m
use Rattle.px_listing.proofs.write.write_listing.Goals as goal

pub returns-in_err-put-clause-err : goal.returns-in_err-put-clause-err
returns-in_err-put-clause-err g c =
    let l = c.args.listing.now in
    let i = c.loop-m.m-index in
    let items = c.deref-m-items.ensures.value ∙ ap (λ (l : ListingView). l.macros) c.listing.view_is in
    let within : i < length l.macros = rw items at c.loop-m-test.true in
    let line = c.as_str.ensures.value ∙ (c.macro_line.ensures ∙ ap (λ os. macro_line (get_or os i m.All)) items) in
    let others = flat_map macro_line (drop (i + 1) l.macros) ++ end_line in
    let first = listing_head l.nx l.ny in
    let cut = behind first (flat_map macro_line (take i l.macros)) (macro_line (get_or l.macros i m.All))
    (flat_map macro_line (drop (i + 1) l.macros))
    end_line (flat_map macro_line l.macros) (listed_cut macro_line l.macros i m.All within) in
    on_err _ (puts_cut _ _ _ [] _ _ _ others (canonical_listing l) cut c.loop-m.invariant.put
    (rw line at c.in_err-put.ensures.err))

pub loop-m-preserved : goal.loop-m-preserved
loop-m-preserved g c =
    let l = c.args.listing.now in
    let i = c.loop-m.m-index in
    let items = c.deref-m-items.ensures.value ∙ ap (λ (l : ListingView). l.macros) c.listing.view_is in
    let within : i < length l.macros = rw items at c.loop-m-test.true in
    let line = c.as_str.ensures.value ∙ (c.macro_line.ensures ∙ ap (λ os. macro_line (get_or os i m.All)) items) in
    let first = listing_head l.nx l.ny in
    let more = append_assoc first (flat_map macro_line (take i l.macros)) (macro_line (get_or l.macros i m.All))
    ∙ ap (λ bytes. first ++ bytes) (listed_more macro_line l.macros i m.All within) in
    grind (arith, puts_both)

pub returns-clause-ok : goal.returns-clause-ok
returns-clause-ok g c =
    let l = c.args.listing.now in
    let items = c.deref-m-items.ensures.value ∙ ap (λ (l : ListingView). l.macros) c.listing.view_is in
    let all = take_all c.loop-m.m-index l.macros (rw items at c.loop-m-test.false) in
    let put = rw all at c.loop-m.invariant.put in
    ok_all _ _ _ _ [] _ _ end_line (canonical_listing l) refl put c.put_end.ensures.ok

pub returns-clause-err : goal.returns-clause-err
returns-clause-err g c =
    let l = c.args.listing.now in
    let items = c.deref-m-items.ensures.value ∙ ap (λ (l : ListingView). l.macros) c.listing.view_is in
    let all = take_all c.loop-m.m-index l.macros (rw items at c.loop-m-test.false) in
    let put = rw all at c.loop-m.invariant.put in
    let first = listing_head l.nx l.ny in
    let text = flat_map macro_line l.macros in
    err_cut _ _ _ _ [] _ (first ++ text) end_line [] (canonical_listing l)
    (ap (λ bytes. (first ++ text) ++ bytes) (append-nil end_line)) put c.put_end.ensures.err
