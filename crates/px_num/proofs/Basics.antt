-- The words and lemmas of std that proofs use, by one name.
pub use Rattle.std.proofs.Common.{All, Bool, Bor, Err, IfNone, IfOk, IfSome, IsSome, IsSomeAnd, List, None, Ok, OnErr}
pub use Rattle.std.proofs.Common.{OnOk, Option, Result, Some, [], add-one, add-zero, ap, append-nil, append_assoc}
pub use Rattle.std.proofs.Common.{arith, below_more, bit_and, bit_or, bit_xor, codes, cond, count_by, decimal, drop}
pub use Rattle.std.proofs.Common.{eq-eqb, eqb, false, filter, find, fold, get_or, get_or-drop, get_or-set_other}
pub use Rattle.std.proofs.Common.{get_or-set_same, if◌then◌else◌, inl, inr, is_some, length, length-append, length-drop}
pub use Rattle.std.proofs.Common.{length-set, length-take, length-take-le, map, max, min, nat_eq, nat_le, nat_lt, neg_ℤ}
pub use Rattle.std.proofs.Common.{negsuc, not, of_z, pos, refl, replicate, reverse, rules, set, slice_get, slice_index}
pub use Rattle.std.proofs.Common.{slice_index_or, slice_set, subst, suc, sym, take, to_z, true, unwrap_or, vec_len, w64}
pub use Rattle.std.proofs.Common.{zero, ℕ, ℤ, ◌%◌, ◌&&◌, ◌*ℤ◌, ◌*◌, ◌++◌, ◌+ℤ◌, ◌+◌, ◌-ℤ◌, ◌-◌, ◌/◌, ◌<ℤ◌, ◌<◌, ◌==◌}
pub use Rattle.std.proofs.Common.{◌^◌, ◌||◌, ◌↔◌, ◌∙◌, ◌∷◌, ◌≡◌, ◌≢◌, ◌≤ℤ◌, ◌≤◌, ◌⊎◌}
pub use Rattle.std.proofs.Math.Arith.{mod-mul}
pub use Rattle.std.proofs.Math.IntN.{*ℤ-zero}
pub use Rattle.std.proofs.Math.Nat.{div-lt_iff_lt-mul, div-mul-le_self, le-div_iff_mul-le, mod-eq_of_lt, mod-le, mod-lt}
pub use Rattle.std.proofs.Math.Nat.{mul-div-le, mul-le-mul, mul-le-mul_left, mul-le-mul_right, one-le-pow}
pub use Rattle.std.proofs.Math.Nat.{pow-le-pow_right}
pub use Rattle.std.proofs.Math.Path.{fun_ext}
pub use Rattle.std.proofs.Math.Pow.{pow_mono}
pub use Rattle.std.proofs.Math.Seq.{drop-cons, get_or-append_seam, take-add, take-append-add, take-append_seam}
pub use Rattle.std.proofs.lemmas.Bool.{agree_below_at, cases_Bool, cases_eq, cases_lt, le-ltb, lt-ltb}
pub use Rattle.std.proofs.lemmas.Bool.Decides.{nat_tests}
pub use Rattle.std.proofs.lemmas.Fmt.{length-decimal-le}
pub use Rattle.std.proofs.lemmas.Grind.{common_steps, flat_map-append, get_or-set_at}
pub use Rattle.std.proofs.lemmas.Int.{ints, to_z-of_z}
pub use Rattle.std.proofs.lemmas.Iterator.Consumers.{YieldsList-at, YieldsList-end, YieldsList-from_filter}
pub use Rattle.std.proofs.lemmas.Iterator.Consumers.{YieldsList-from_filter_map, YieldsList-turn}
pub use Rattle.std.proofs.lemmas.Iterator.Splits.{YieldsList-from_slice_split}
pub use Rattle.std.proofs.lemmas.List.{drop-append-le, drop-drop, drop-take, drop_all, drop_more, flat_map_more}
pub use Rattle.std.proofs.lemmas.List.{get_or-append-add, get_or-append_right, get_or-map, get_or-replicate}
pub use Rattle.std.proofs.lemmas.List.{get_or-take, get_or_append_left, get_or_default, get_or_past, length-map}
pub use Rattle.std.proofs.lemmas.List.{length-replicate, length-reverse, map-append, places, reverse-append, same_lists}
pub use Rattle.std.proofs.lemmas.List.{take-append-drop, take-append-le, take-take, take_all, take_min, take_more}
pub use Rattle.std.proofs.lemmas.List.Concat.{flat_map-cons, get_or-flat_map, length-flat_map}
pub use Rattle.std.proofs.lemmas.List.Elements.{All-append, All-cons, All-filter, All-get_or, All-head, All-map}
pub use Rattle.std.proofs.lemmas.List.Elements.{All-nil, All-push, All-tail, All-weaker, filter-append}
pub use Rattle.std.proofs.lemmas.List.Elements.{filter_map-append}
pub use Rattle.std.proofs.lemmas.List.Folds.{find-append, fold-map, length-flat_map-take, list_all-append, list_all-map}
pub use Rattle.std.proofs.lemmas.List.Folds.{list_any-append}
pub use Rattle.std.proofs.lemmas.List.FromFn.{get_or-map-range_with_len, get_or-range_with_len}
pub use Rattle.std.proofs.lemmas.List.FromFn.{length-map-range_with_len, length-range_with_len}
pub use Rattle.std.proofs.lemmas.List.Quantifiers.{all_pairs_push}
pub use Rattle.std.proofs.lemmas.List.Sums.{count_by-le-length, fold-append, fold_more, length-filter, sum_by-append}
pub use Rattle.std.proofs.lemmas.List.Sums.{sum_by-cons, sum_by-le, sum_by_more}
pub use Rattle.std.proofs.lemmas.Nat.{and_mask, div-mul-add, mod-mul-add, mod-pow-add, mod_below, mul-add-lt, pow-add}
pub use Rattle.std.proofs.lemmas.Nat.{pow_below, pow_pos, shr-shr, shr_split}
pub use Rattle.std.proofs.lemmas.Nat.Bits.{bit_at-lt, bit_at-suc, bit_at-zero, bit_at_above, bit_at_and}
pub use Rattle.std.proofs.lemmas.Nat.Bits.{bit_at_cat_high, bit_at_cat_low, bit_at_ones, bit_at_or, bit_at_set_other}
pub use Rattle.std.proofs.lemmas.Nat.Bits.{bit_at_set_same}
pub use Rattle.std.proofs.lemmas.Option.{get_or_from_slice_get, slice_get-get_or, slice_get-map, slice_get_cases}
pub use Rattle.std.proofs.lemmas.Option.{slice_get_past, slice_get_within}
pub use Rattle.std.proofs.lemmas.Result.{err_from_is_err_and}
pub use Rattle.std.proofs.lemmas.Simd.{get_or-chunk, get_or-put_chunk_above, get_or-put_chunk_at}
pub use Rattle.std.proofs.lemmas.Simd.{get_or-put_chunk_below, get_or-zip2, length-zip2}
pub use Rattle.std.proofs.lemmas.Slice.{between_from_start, between_is}
pub use Rattle.std.proofs.lemmas.Slice.Eq.{bytes_eq-Decides}
pub use Rattle.std.specs.Bool.{beq}
pub use Rattle.std.specs.Fmt.{signed_decimal}
pub use Rattle.std.specs.Int.{bit_at, int_max, int_min, is_negative}
pub use Rattle.std.specs.Int.Digits.{AllBelowBase, number_from_digits}
pub use Rattle.std.specs.Int.Signed.{lt_z}
pub use Rattle.std.specs.Io.KnownBytes.{Appends, Consumes, IsAtEnd, Keeps}
pub use Rattle.std.specs.List.{AllPairs, AllPass, before_first, between, filter_map, flat_map, list_all, list_any}
pub use Rattle.std.specs.List.{range_with_len, slice_split, sum_by}
pub use Rattle.std.specs.Option.{option_map, option_map_or, option_or}
pub use Rattle.std.specs.Ordering.{int_eq}
pub use Rattle.std.specs.Prelude.{⊤}
pub use Rattle.std.specs.Simd.Lanes.{zip2}
pub use Rattle.std.specs.Str.{bytes_eq}
pub use Rattle.std.specs.Vec.{with_item}
