-- One name that opens every definition that a document or an answer is computed by, for tests.
-- Assumes nothing.
use mathlib.Core.List.{flat_map}
use Rattle.meaning.specs.Lists.{all, any, keep, take_while, onto_first, field, joined, same, up_from, bytes}
use Rattle.meaning.specs.Refusals.{no_refusal, is_good, first_broken}
use Rattle.meaning.specs.Tables.{latin_table, composed_table}
use Rattle.meaning.specs.Characters.{latin, accents, accent, letter, composed, mark_of, base, accented}
use Rattle.meaning.specs.Glyphs.{marks, is_mark, single, spelling, glyphs, is_space}
use Rattle.meaning.specs.Codes.{is_control, is_switch, character_of, code_token, pair_token, is_accent, tokens, is_listed, is_character, is_row_end, takes_cell, is_control_of, is_box_code}
use Rattle.meaning.specs.Rows.{split_rows, in_row, first_row, breaks_paired, paired_from, rows_of, height_first, even_from, heights_right, lines_of, row_count, is_short, rows_fit}
use Rattle.meaning.specs.TextRules.{before_fault, breaks_codes, misplaced_height, odd_ends, end_first, breaks_heights, breaks_rows, tokens_in, tokens_before, first_size, bytes_before, code_fault, height_fault, row_fault, text_rules, text_rule}
use Rattle.meaning.specs.Looks.{white_on_black, pack, unpack, shared, free, blend, on_black}
use Rattle.meaning.specs.Cells.{points, cell_character, control_here, control_next, switched, look_here, look_next, hidden_next, hidden_if, cell_of, pen_after, cells_of, cells_from, pen_end, row_start, cell_rows, is_blank, is_blank_on_black, trim_front, before_trimmed, trim_back, shown}
use Rattle.meaning.specs.Spans.{fits, foreground_of, look_of, uniform, spans_from, spans}
use Rattle.meaning.specs.Gsi.{rate_of, is_rate, block_count, is_digit, value_from, number_in, tnb, mnr, is_teletext, screen_of, format_of, file_rules, file_rule}
use Rattle.meaning.specs.Blocks.{blocks, block_at, time_at, header_of, in_text, block_text, time_rules, time_in_range, in_frames, times_rules, times_right, is_comment, on_screen, subtitle_rules, first_block_rules}
use Rattle.meaning.specs.Sets.{no_blocks, unless, close_at_last, begins, opening, goes_on, agreement_rules, continuing, is_user, advance}
use Rattle.meaning.specs.Walk.{no_counts, counted, is_open, begun, finish, judge, step, steps, walk, set_rule, subtitle_of, subtitles_from, with_subtitles, outcome, subtitles_of}
use Rattle.meaning.specs.Document.{digits, without_zeros, decimal, utf8, escaped, style_name, write_span, write_piece, write_time, alignment_name, write_paragraph, channel, colour_name, size_name, font_style_name, decoration_name, style_end, write_style, looks_of, document_looks, is_used, looks_used, before_rate, before_styles, before_paragraphs, after_paragraphs, render, document_spans}
use Rattle.meaning.specs.Conversion.{span_of, row_spans, later_rows, row_pieces, fillers, pieces, alignment_of, paragraph_of, document_of, refusal_to, refusal, refused_answer, accepted_answer, answer_by, answer_to, answer, buffer_after, output}
use Rattle.meaning.specs.Reasons.{text_at, text_offset, offset_in, byte_at, reason_of, reason}
use Rattle.meaning.specs.Profile.{is_scalar, marks_stand, piece_in_profile, paragraphs_in_profile, in_profile, document_rows, span_cells, row_cells, subtitle_row, paragraph_row, starts_with, span_elements}

unfoldable pub computed : Unit {0}
unfolding all any keep take_while onto_first flat_map field joined same up_from bytes no_refusal is_good first_broken latin_table composed_table latin accents accent letter composed mark_of base accented marks is_mark single spelling glyphs is_space is_control is_switch character_of code_token pair_token is_accent tokens is_listed is_character is_row_end takes_cell is_control_of is_box_code split_rows in_row first_row breaks_paired paired_from rows_of height_first even_from heights_right lines_of row_count is_short rows_fit before_fault breaks_codes misplaced_height odd_ends end_first breaks_heights breaks_rows tokens_in tokens_before first_size bytes_before code_fault height_fault row_fault text_rules text_rule white_on_black pack unpack shared free blend on_black points cell_character control_here control_next switched look_here look_next hidden_next hidden_if cell_of pen_after cells_of cells_from pen_end row_start cell_rows is_blank is_blank_on_black trim_front before_trimmed trim_back shown fits foreground_of look_of uniform spans_from spans rate_of is_rate block_count is_digit value_from number_in tnb mnr is_teletext screen_of format_of file_rules file_rule blocks block_at time_at header_of in_text block_text time_rules time_in_range in_frames times_rules times_right is_comment on_screen subtitle_rules first_block_rules no_blocks unless close_at_last begins opening goes_on agreement_rules continuing is_user advance no_counts counted is_open begun finish judge step steps walk set_rule subtitle_of subtitles_from with_subtitles outcome subtitles_of digits without_zeros decimal utf8 escaped style_name write_span write_piece write_time alignment_name write_paragraph channel colour_name size_name font_style_name decoration_name style_end write_style looks_of document_looks is_used looks_used before_rate before_styles before_paragraphs after_paragraphs render document_spans span_of row_spans later_rows row_pieces fillers pieces alignment_of paragraph_of document_of refusal_to refusal refused_answer accepted_answer answer_by answer_to answer buffer_after output text_at text_offset offset_in byte_at reason_of reason is_scalar marks_stand piece_in_profile paragraphs_in_profile in_profile document_rows span_cells row_cells subtitle_row paragraph_row starts_with span_elements
computed = tt
