pub mod RefusalTexts
