-- The items of the library units, as their texts are read. Each word of them is a constant.
use Rattle.std.specs.Prelude.{ℕ, ◌==◌, pos, List, [], ◌∷◌, None, if◌then◌else◌}
use Rattle.merc_base.specs.Names.{a_name, append_name, bool_name, colon_colon_name, colon_minus_name, comma_name, cons_name, det_name, equal_name, in_name, int_name, is_name, length_name, list_name, list_reverse_onto_name, m_name, maybe_name, member_name, mode_name, multi_name, n_name, nil_name, no_name, nondet_name, out_name, plus_name, pred_name, reverse_name, semicolon_name, semidet_name, t_name, type_arrow_name, type_name, underscore_name, x_name, xs_name, yes_name, ys_name, zs_name}
use Rattle.merc_base.specs.declared.place.Span.{Span}
use Rattle.merc_tree.specs.Term.{Term, Variable, Integer, Application, none, terms_of}

-- Terms with the line of each, and the bytes from which to which it stands.

abbrev at : ℕ → ℕ → ℕ → Span
at line first past = record { first = first; past = past; line = line }

abbrev variable : ℕ → ℕ → ℕ → ℕ → Term
variable line name first past = Variable name (at line first past)

abbrev integer : ℕ → ℕ → ℕ → ℕ → Term
integer line value first past = Integer (pos value) (at line first past)

abbrev word : ℕ → ℕ → ℕ → ℕ → Term
word line name first past = Application name None none (at line first past)

abbrev apply : ℕ → ℕ → ℕ → ℕ → List Term → Term
apply line name first past arguments = Application name None (terms_of arguments) (at line first past)

-- the unit `list`

-- `:- type list(T) ---> [] ; [T | list(T)].`
abbrev pub list_type : Term
list_type =
    apply 1 colon_minus_name 0 39 (
    apply 1 type_name 3 39 (
    apply 1 type_arrow_name 8 39 (
    apply 1 list_name 8 15 (variable 1 t_name 13 14 ∷ []) ∷
    apply 1 semicolon_name 21 39 (
    word 1 nil_name 21 23 ∷
    apply 1 cons_name 26 39 (variable 1 t_name 27 28 ∷ apply 1 list_name 31 38 (variable 1 t_name 36 37 ∷ []) ∷ []) ∷
    []) ∷
    []) ∷
    []) ∷
    [])

-- `:- pred append(list(T), list(T), list(T)).`
abbrev pub append_declaration : Term
append_declaration =
    apply 2 colon_minus_name 41 82 (
    apply 2 pred_name 44 82 (
    apply 2 append_name 49 82 (
    apply 2 list_name 56 63 (variable 2 t_name 61 62 ∷ []) ∷
    apply 2 list_name 65 72 (variable 2 t_name 70 71 ∷ []) ∷
    apply 2 list_name 74 81 (variable 2 t_name 79 80 ∷ []) ∷
    []) ∷
    []) ∷
    [])

-- `:- mode append(in, in, out) is det.`
abbrev pub append_mode : Term
append_mode =
    apply 3 colon_minus_name 84 118 (
    apply 3 mode_name 87 118 (
    apply 3 is_name 92 118 (
    apply 3 append_name 92 111 (word 3 in_name 99 101 ∷ word 3 in_name 103 105 ∷ word 3 out_name 107 110 ∷ []) ∷
    word 3 det_name 115 118 ∷
    []) ∷
    []) ∷
    [])

-- `:- mode append(out, out, in) is multi.`
abbrev pub append_parts_mode : Term
append_parts_mode =
    apply 4 colon_minus_name 120 157 (
    apply 4 mode_name 123 157 (
    apply 4 is_name 128 157 (
    apply 4 append_name 128 148 (word 4 out_name 135 138 ∷ word 4 out_name 140 143 ∷ word 4 in_name 145 147 ∷ []) ∷
    word 4 multi_name 152 157 ∷
    []) ∷
    []) ∷
    [])

-- `append([], Ys, Ys).`
abbrev pub append_nil : Term
append_nil =
    apply 5 append_name 159 177 (word 5 nil_name 166 168 ∷ variable 5 ys_name 170 172 ∷ variable 5 ys_name 174 176 ∷ [])

-- `append([X | Xs], Ys, [X | Zs]) :- append(Xs, Ys, Zs).`
abbrev pub append_cell : Term
append_cell =
    apply 6 colon_minus_name 179 231 (
    apply 6 append_name 179 209 (
    apply 6 cons_name 186 194 (variable 6 x_name 187 188 ∷ variable 6 xs_name 191 193 ∷ []) ∷
    variable 6 ys_name 196 198 ∷
    apply 6 cons_name 200 208 (variable 6 x_name 201 202 ∷ variable 6 zs_name 205 207 ∷ []) ∷
    []) ∷
    apply 6 append_name 213 231 (variable 6 xs_name 220 222 ∷ variable 6 ys_name 224 226 ∷ variable 6 zs_name 228 230 ∷ []) ∷
    [])

-- `:- pred member(T, list(T)).`
abbrev pub member_declaration : Term
member_declaration =
    apply 7 colon_minus_name 233 259 (
    apply 7 pred_name 236 259 (apply 7 member_name 241 259 (variable 7 t_name 248 249 ∷ apply 7 list_name 251 258 (variable 7 t_name 256 257 ∷ []) ∷ []) ∷ []) ∷
    [])

-- `:- mode member(in, in) is semidet.`
abbrev pub member_test_mode : Term
member_test_mode =
    apply 8 colon_minus_name 261 294 (
    apply 8 mode_name 264 294 (
    apply 8 is_name 269 294 (apply 8 member_name 269 283 (word 8 in_name 276 278 ∷ word 8 in_name 280 282 ∷ []) ∷ word 8 semidet_name 287 294 ∷ []) ∷
    []) ∷
    [])

-- `:- mode member(out, in) is nondet.`
abbrev pub member_mode : Term
member_mode =
    apply 9 colon_minus_name 296 329 (
    apply 9 mode_name 299 329 (
    apply 9 is_name 304 329 (apply 9 member_name 304 319 (word 9 out_name 311 314 ∷ word 9 in_name 316 318 ∷ []) ∷ word 9 nondet_name 323 329 ∷ []) ∷
    []) ∷
    [])

-- `member(X, [X | _]).`
abbrev pub member_first : Term
member_first =
    apply 10 member_name 331 349 (
    variable 10 x_name 338 339 ∷
    apply 10 cons_name 341 348 (variable 10 x_name 342 343 ∷ variable 10 underscore_name 346 347 ∷ []) ∷
    [])

-- `member(X, [_ | Xs]) :- member(X, Xs).`
abbrev pub member_later : Term
member_later =
    apply 11 colon_minus_name 351 387 (
    apply 11 member_name 351 370 (
    variable 11 x_name 358 359 ∷
    apply 11 cons_name 361 369 (variable 11 underscore_name 362 363 ∷ variable 11 xs_name 366 368 ∷ []) ∷
    []) ∷
    apply 11 member_name 374 387 (variable 11 x_name 381 382 ∷ variable 11 xs_name 384 386 ∷ []) ∷
    [])

-- `:- pred length(list(T)::in, int::out) is det.`
abbrev pub length_declaration : Term
length_declaration =
    apply 12 colon_minus_name 389 433 (
    apply 12 pred_name 392 433 (
    apply 12 is_name 397 433 (
    apply 12 length_name 397 426 (
    apply 12 colon_colon_name 404 415 (apply 12 list_name 404 411 (variable 12 t_name 409 410 ∷ []) ∷ word 12 in_name 413 415 ∷ []) ∷
    apply 12 colon_colon_name 417 425 (word 12 int_name 417 420 ∷ word 12 out_name 422 425 ∷ []) ∷
    []) ∷
    word 12 det_name 430 433 ∷
    []) ∷
    []) ∷
    [])

-- `length([], 0).`
abbrev pub length_nil : Term
length_nil =
    apply 13 length_name 435 448 (word 13 nil_name 442 444 ∷ integer 13 0 446 447 ∷ [])

-- `length([_ | Xs], N) :- length(Xs, M), N = M + 1.`
abbrev pub length_cell : Term
length_cell =
    apply 14 colon_minus_name 450 497 (
    apply 14 length_name 450 469 (
    apply 14 cons_name 457 465 (variable 14 underscore_name 458 459 ∷ variable 14 xs_name 462 464 ∷ []) ∷
    variable 14 n_name 467 468 ∷
    []) ∷
    apply 14 comma_name 473 497 (
    apply 14 length_name 473 486 (variable 14 xs_name 480 482 ∷ variable 14 m_name 484 485 ∷ []) ∷
    apply 14 equal_name 488 497 (variable 14 n_name 488 489 ∷ apply 14 plus_name 492 497 (variable 14 m_name 492 493 ∷ integer 14 1 496 497 ∷ []) ∷ []) ∷
    []) ∷
    [])

-- `:- pred reverse(list(T)::in, list(T)::out) is det.`
abbrev pub reverse_declaration : Term
reverse_declaration =
    apply 15 colon_minus_name 499 548 (
    apply 15 pred_name 502 548 (
    apply 15 is_name 507 548 (
    apply 15 reverse_name 507 541 (
    apply 15 colon_colon_name 515 526 (apply 15 list_name 515 522 (variable 15 t_name 520 521 ∷ []) ∷ word 15 in_name 524 526 ∷ []) ∷
    apply 15 colon_colon_name 528 540 (apply 15 list_name 528 535 (variable 15 t_name 533 534 ∷ []) ∷ word 15 out_name 537 540 ∷ []) ∷
    []) ∷
    word 15 det_name 545 548 ∷
    []) ∷
    []) ∷
    [])

-- `reverse(Xs, Ys) :- list_reverse_onto(Xs, [], Ys).`
abbrev pub reverse_clause : Term
reverse_clause =
    apply 16 colon_minus_name 550 598 (
    apply 16 reverse_name 550 565 (variable 16 xs_name 558 560 ∷ variable 16 ys_name 562 564 ∷ []) ∷
    apply 16 list_reverse_onto_name 569 598 (variable 16 xs_name 587 589 ∷ word 16 nil_name 591 593 ∷ variable 16 ys_name 595 597 ∷ []) ∷
    [])

-- `:- pred list_reverse_onto(list(T)::in, list(T)::in, list(T)::out) is det.`
abbrev pub onto_declaration : Term
onto_declaration =
    apply 17 colon_minus_name 600 672 (
    apply 17 pred_name 603 672 (
    apply 17 is_name 608 672 (
    apply 17 list_reverse_onto_name 608 665 (
    apply 17 colon_colon_name 626 637 (apply 17 list_name 626 633 (variable 17 t_name 631 632 ∷ []) ∷ word 17 in_name 635 637 ∷ []) ∷
    apply 17 colon_colon_name 639 650 (apply 17 list_name 639 646 (variable 17 t_name 644 645 ∷ []) ∷ word 17 in_name 648 650 ∷ []) ∷
    apply 17 colon_colon_name 652 664 (apply 17 list_name 652 659 (variable 17 t_name 657 658 ∷ []) ∷ word 17 out_name 661 664 ∷ []) ∷
    []) ∷
    word 17 det_name 669 672 ∷
    []) ∷
    []) ∷
    [])

-- `list_reverse_onto([], A, A).`
abbrev pub onto_nil : Term
onto_nil =
    apply 18 list_reverse_onto_name 674 701 (word 18 nil_name 692 694 ∷ variable 18 a_name 696 697 ∷ variable 18 a_name 699 700 ∷ [])

-- `list_reverse_onto([X | Xs], A, Ys) :- list_reverse_onto(Xs, [X | A], Ys).`
abbrev pub onto_cell : Term
onto_cell =
    apply 19 colon_minus_name 703 775 (
    apply 19 list_reverse_onto_name 703 737 (
    apply 19 cons_name 721 729 (variable 19 x_name 722 723 ∷ variable 19 xs_name 726 728 ∷ []) ∷
    variable 19 a_name 731 732 ∷
    variable 19 ys_name 734 736 ∷
    []) ∷
    apply 19 list_reverse_onto_name 741 775 (
    variable 19 xs_name 759 761 ∷
    apply 19 cons_name 763 770 (variable 19 x_name 764 765 ∷ variable 19 a_name 768 769 ∷ []) ∷
    variable 19 ys_name 772 774 ∷
    []) ∷
    [])

unfoldable pub list_items : List Term
list_items =
    list_type ∷ append_declaration ∷ append_mode ∷ append_parts_mode ∷ append_nil ∷ append_cell ∷
    member_declaration ∷ member_test_mode ∷ member_mode ∷ member_first ∷ member_later ∷ length_declaration ∷
    length_nil ∷ length_cell ∷ reverse_declaration ∷ reverse_clause ∷ onto_declaration ∷ onto_nil ∷ onto_cell ∷ []

-- the unit `bool`

-- `:- type bool ---> no ; yes.`
abbrev pub bool_type : Term
bool_type =
    apply 1 colon_minus_name 0 26 (
    apply 1 type_name 3 26 (
    apply 1 type_arrow_name 8 26 (word 1 bool_name 8 12 ∷ apply 1 semicolon_name 18 26 (word 1 no_name 18 20 ∷ word 1 yes_name 23 26 ∷ []) ∷ []) ∷
    []) ∷
    [])

unfoldable pub bool_items : List Term
bool_items =
    bool_type ∷ []

-- the unit `maybe`

-- `:- type maybe(T) ---> no ; yes(T).`
abbrev pub maybe_type : Term
maybe_type =
    apply 1 colon_minus_name 0 33 (
    apply 1 type_name 3 33 (
    apply 1 type_arrow_name 8 33 (
    apply 1 maybe_name 8 16 (variable 1 t_name 14 15 ∷ []) ∷
    apply 1 semicolon_name 22 33 (word 1 no_name 22 24 ∷ apply 1 yes_name 27 33 (variable 1 t_name 31 32 ∷ []) ∷ []) ∷
    []) ∷
    []) ∷
    [])

unfoldable pub maybe_items : List Term
maybe_items =
    maybe_type ∷ []

-- The items of each unit. Those without a text have none.
abbrev pub library_items : ℕ → List Term
library_items unit = if unit == list_name then list_items else if unit == bool_name then bool_items else if unit == maybe_name then maybe_items else []
