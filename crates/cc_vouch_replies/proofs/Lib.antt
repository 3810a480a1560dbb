mod StreamedTypes
